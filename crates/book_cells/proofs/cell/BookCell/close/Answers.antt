use Rattle.std.proofs.Common.{◌≡◌, Some, ap, sym, ◌∙◌, subst}
use Rattle.book_cells.specs.Acts.{mine}
use Rattle.book_cells.proofs.Turning.{IsClosed, closes}
use Rattle.book_cells.proofs.cell.BookCell.close.Goals as goal

pub unreachable-requires : goal.unreachable-requires
unreachable-requires g c =
    let e = closes _ _ _ _ c.pass.inside.seat _ _ _ c.pass.view_is c.pass.invariant.1.0 c.requires.first c.requires.all_joined
    c.close_with-closed.ensures.values.2 _ c.take-slot.ensures.value in let clash = sym e.1 ∙ c.in_default.is in cc

abbrev Closed : (g : _) (c : goal.After-into_inner g) → g.row.B.Denot → g.row.B.Denot → Type 0
Closed g c begun = IsClosed g.B.Book.opening g.B.Book.acts g.B.Book.is_legal begun c.args.pass.seen (mine c.args.pass)

ended : (g : _) (c : goal.After-into_inner g) → Closed g c c.args.self.opening c.into_inner.result
ended g c =
    let e = closes _ _ _ _ c.pass.inside.seat _ _ _ c.pass.view_is c.pass.invariant.1.0 c.requires.first c.requires.all_joined
    c.close_with-closed.ensures.values.2 _ c.take-slot.ensures.value in
    let found : Some e.0 ≡ Some c.in-Some.field-0 = sym e.1 ∙ c.in-Some.is in let same : e.0 ≡ c.in-Some.field-0 = cc in
    subst (λ b. Closed g c b c.into_inner.result) (ap (λ s. s.opening) c.self.view_is)
    (subst (Closed g c c.self.inside.table.shared.key.book.value) (ap (λ k. k.book.value) same ∙ sym c.into_inner.ensures) e.2)

pub returns-clause-opening : goal.returns-clause-opening
returns-clause-opening g c = (ended g c).opening_is

pub returns-clause-legal : goal.returns-clause-legal
returns-clause-legal g c = (ended g c).is_legal

pub returns-clause-seen : goal.returns-clause-seen
returns-clause-seen g c = (ended g c).seen

pub returns-clause-acts : goal.returns-clause-acts
returns-clause-acts g c = (ended g c).acts
