use Rattle.std.proofs.Common.{rules, ℕ, ◌<◌, ◌^◌, ◌∷◌, sym, ap, ◌∙◌, subst}
use Rattle.book_cells.specs.Acts.{is_among}
use Rattle.book_cells.proofs.Turning.{splits}
use Rattle.book_cells.proofs.cell.BookCell.split_as.Goals as goal

pub split_seat-seat-requires : goal.split_seat-seat-requires
split_seat-seat-requires g c = let e = c.requires.number in let is = c.pass.view_is in (
  search rules,
  search rules,
  splits _ _ _ _ _ _ _ c.pass.invariant.1.0 (ap (λ p. p.is_first) is
      ∙ c.requires.first) ((λ i. is_among (sym e i) ((is i).number ∷ (is i).handed)) ∙ c.requires.unused)
      (let small : c.args.source < 2 ^ 32 = search rules in subst (λ (n : ℕ). n < 2 ^ 32) e small),
)
