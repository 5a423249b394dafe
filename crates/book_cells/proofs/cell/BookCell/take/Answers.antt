use Rattle.std.proofs.Common.{rules, ap, Some}
use Rattle.book_cells.proofs.Turning.{draws, front_of}
use Rattle.book_cells.proofs.cell.BookCell.take.Goals as goal

pub fetch_add-ticket-requires : goal.fetch_add-ticket-requires
fetch_add-ticket-requires g c = (search rules, search rules, draws _ _ _ _ _ _ _ c.requires.rest.0)

pub exchange-taken-requires : goal.exchange-taken-requires
exchange-taken-requires g c = let d = c.fetch_add-ticket.ensures.2 in
    let w = c.wait_turn.ensures.turn d.0 (ap (λ m. m.0.stage) d.2) in (search rules, (Some w.0, front_of _ _ _ w.1.1))
