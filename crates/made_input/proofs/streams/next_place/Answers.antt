use Rattle.std.proofs.Common.{arith}
use Rattle.made_input.proofs.Pieces.{turned}
use Rattle.made_input.proofs.streams.next_place.Goals as goal

pub pieces-preserved : goal.pieces-preserved
pieces-preserved c =
    turned (λ p. p.items) c.args.pieces.now c.pieces.piece c.pieces.at _ c.index-pieces-piece.result (omega arith) c.index-pieces-piece.is
    (omega (arith, c.if-at-len.true, c.len.ensures, c.index-pieces-piece.result.ok.0)) c.pieces.invariant.1
