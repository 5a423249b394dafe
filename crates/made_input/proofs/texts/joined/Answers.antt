use Rattle.std.proofs.Common.{◌++◌, ap, ◌∙◌}
use Rattle.std.specs.List.{flat_map}
use Rattle.std.proofs.lemmas.List.{take_all}
use Rattle.std.proofs.lemmas.Result.{err_from_is_err_and}
use Rattle.made_input.proofs.Pieces.{one_piece}
use Rattle.made_input.proofs.texts.joined.Goals as goal

pub returns-in_err-extend_from_slice : goal.returns-in_err-extend_from_slice
returns-in_err-extend_from_slice c =
    let p = err_from_is_err_and c.from_residual.result c.from_residual.ensures.1 in
    rw p.1 tt

pub loop-piece-preserved : goal.loop-piece-preserved
loop-piece-preserved c =
    one_piece (λ p. p.items) c.args.pieces.now c.loop-piece.piece-index c.piece-item.result c.loop-piece-test.true c.piece-item.is
    c.loop-piece.invariant (c.in_ok-extend_from_slice.ensures.items ∙ ap (λ b. c.loop-piece.bytes.items ++ b) c.deref.ensures.value)

pub returns : goal.returns
returns c = c.loop-piece.invariant ∙ ap (flat_map (λ p. p.items)) (take_all _ c.args.pieces.now c.loop-piece-test.false)
