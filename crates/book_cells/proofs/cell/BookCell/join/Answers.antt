use Rattle.std.proofs.Common.{rules, ap, ◌∙◌}
use Rattle.book_cells.proofs.Turning.{joins}
use Rattle.book_cells.proofs.cell.BookCell.join.Goals as goal

pub join_seat-requires : goal.join_seat-requires
join_seat-requires g c = (
  search rules,
  search rules,
  search rules,
  search rules,
  joins _ _ _ _ _ _ _ _ c.pass.invariant.1.0 c.other.invariant.1.0 (ap (λ p. p.is_first) c.other.view_is ∙ c.requires.not_first),
)
