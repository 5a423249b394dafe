-- What one turn leaves of the book goes home.
use Rattle.std.proofs.Common.{◌≡◌, ℕ, ◌+◌, ◌^◌, List, ◌++◌, length, Result, Ok, Err, sym, ap, ◌∙◌, subst}
use Rattle.std.proofs.Math.Nat.{mod-add-mod}
use Rattle.book_cells.specs.declared.act.Act.{Act}
use Rattle.book_cells.specs.declared.kept.Kept.{Kept}
use Rattle.book_cells.specs.declared.known.Known.{Known}
use Rattle.lists.specs.Each.{Each}
use Rattle.book_cells.specs.Turns.{wrapped, fresh_of, IsTurn, IsOneTurn, GoesHome}
use Rattle.book_cells.proofs.cell.BookCell.step.Goals as goal

goes_home : {B O C R E : Type 0} (opening_of : B → O) (acts_of : B → List (Act C R)) (legal : O → List (Act C R) → Type 0)
    (v w : Known B C R) (t source line : ℕ) (call : C) (result : Result R E) (k k' : Kept B) → IsTurn opening_of acts_of legal v w t k
    → source ≡ v.number → IsOneTurn opening_of acts_of legal (fresh_of source line call result) k k'
    → GoesHome opening_of acts_of legal w t (fresh_of source line call result) k'
goes_home {B} {O} {C} {R} {E} opening_of acts_of legal v w t source line call result k k' h number one = record {
  holds = ap (λ (x : Known B C R). x.stage) h.known;
  added = one.added ∙ ap (λ (l : List (Act C R)). l ++ fresh_of source line call result) h.stands.acts_are;
  mine = own result;
  opening_is = (h.opening_is.0, ap (λ (x : Known B C R). x.opening) h.known ∙ h.opening_is.1, h.opening_is.2 ∙ sym one.opening_is);
  is_legal = subst (λ (o : O). legal o (acts_of k'.book.value)) (sym one.opening_is)
      (one.is_legal (subst (legal (opening_of k.book.value)) (sym h.stands.acts_are) h.is_legal));
  turns = one.turns ∙ (ap (λ (l : List (Act C R)). wrapped ((length l + k.idle) + 1)) h.stands.acts_are
      ∙ (sym (mod-add-mod (length w.seen + k.idle) (2 ^ 64) 1)
      ∙ (ap (λ (n : ℕ). wrapped (n + 1)) h.stands.turns_are ∙ mod-add-mod t (2 ^ 64) 1)));
}
  where
    own : (r : Result R E) → Each (λ (e : Act C R). e.source ≡ w.number) (fresh_of source line call r)
    own (Ok answer) = (number ∙ sym (ap (λ (x : Known B C R). x.number) h.known), tt)
    own (Err e) = tt

pub give-requires-clause-turn : goal.give-requires-clause-turn
give-requires-clause-turn g c = let h = c.take-kept.ensures.turn in (
  h.0,
  fresh_of c.pass.inside.source c.args.line c.args.call c.turn-answer.result,
  goes_home g.B.Book.opening g.B.Book.acts g.B.Book.is_legal _ _ h.0 c.pass.inside.source c.args.line c.args.call
      c.turn-answer.result _ _ h.1 c.pass.invariant.0 c.turn-answer.ensures,
)
