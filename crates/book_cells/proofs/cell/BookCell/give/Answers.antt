use Rattle.std.proofs.Common.{rules, Some, None}
use Rattle.book_cells.proofs.Turning.{put_in, leaves_from, left_is}
use Rattle.book_cells.proofs.cell.BookCell.give.Goals as goal

pub fetch_add-requires : goal.fetch_add-requires
fetch_add-requires g c = (
  search rules,
  search rules,
  leaves_from _ _ _ _ _ _ _ _ _ _ _ (put_in _ c.args.seat.now.me.1 (Some c.args.kept) None _ c.exchange-gap.ensures.3 c.requires.own.1)
      c.requires.turn.2,
)

pub returns-clause-back : goal.returns-clause-back
returns-clause-back g c =
    left_is g.B.Book.opening g.B.Book.acts g.B.Book.is_legal c.args.seat.now.me.0 c.args.kept c.exchange-gap.new.seat.me
    c.fetch_add.new.seat.me
    (put_in _ c.args.seat.now.me.1 (Some c.args.kept) None _ c.exchange-gap.ensures.3 c.requires.own.1) c.fetch_add.ensures.2
