use Rattle.std.proofs.Common.{rules, ap, sym, refl, ◌∙◌}
use Rattle.book_cells.proofs.Turning.{begins}
use Rattle.book_cells.proofs.cell.BookCell.new.Goals as goal

pub new-requires-2 : goal.new-requires-2
new-requires-2 g c = rw (c.push_reserved.ensures.items, c.in-Ok-with_capacity.ensures.items)
    (begins g.B.Book.opening g.B.Book.acts g.B.Book.is_legal _ (record { book = c.in-Ok.placed; idle = 0 }) c.args.source (search rules)
    (ap g.B.Book.opening (c.in-Ok.ensures.ok ∙ sym c.of.ensures)) (ap g.B.Book.acts c.in-Ok.ensures.ok
    ∙ c.requires) refl (g.met.B.Book.empty_is_legal _))

pub book_of-requires : goal.book_of-requires
book_of-requires g c = (
  record { book = c.in-Ok.placed; idle = 0 },
  c.in-Err-new.ensures.err
      ∙ rw (c.push_reserved.ensures.items, c.in-Ok-with_capacity.ensures.items) refl,
)

pub returns-clause-not_made : goal.returns-clause-not_made
returns-clause-not_made g c =
    c.book_of.ensures record {
      book = c.in-Ok.placed;
      idle =
          0;
    } (c.in-Err-new.ensures.err ∙ rw (c.push_reserved.ensures.items, c.in-Ok-with_capacity.ensures.items) refl)
    ∙ c.in-Ok.ensures.ok
