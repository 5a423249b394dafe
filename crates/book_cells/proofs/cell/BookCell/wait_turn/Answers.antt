use Rattle.std.proofs.Common.{rules, ap, ◌∙◌}
use Rattle.book_cells.proofs.Turning.{looks, turned}
use Rattle.book_cells.proofs.cell.BookCell.wait_turn.Goals as goal

pub load-requires : goal.load-requires
load-requires g c = (
  search rules,
  search rules,
  looks _ _ _ _ _ _ _ c.requires.waits.0 (let e =
      c.loop.invariant.2 in ap (λ m. m.0.stage) e ∙ c.requires.waits.2),
)

pub returns-then-load-ticket-clause-turn : goal.returns-then-load-ticket-clause-turn
returns-then-load-ticket-clause-turn g c =
    turned _ _ _ c.loop.seat.me c.args.seat.now.me c.load.new.seat.me c.load.result c.args.ticket c.requires.waits.0 c.load.ensures.2
    c.loop.invariant.2 c.requires.waits.1 c.requires.waits.2 (search rules)
