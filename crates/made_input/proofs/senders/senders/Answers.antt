use Rattle.std.proofs.Common.{◌∙◌, arith}
use Rattle.std.proofs.lemmas.List.{take_all, take_more}
use Rattle.std.proofs.lemmas.Result.{err_from_is_err_and}
use Rattle.made_input.proofs.senders.senders.Goals as goal

pub returns-in_err-push : goal.returns-in_err-push
returns-in_err-push c =
    let p = err_from_is_err_and c.from_residual-in_err-push.result c.from_residual-in_err-push.ensures.1 in
    rw p.1 tt

pub loop-meter-preserved : goal.loop-meter-preserved
loop-meter-preserved c = grind (arith, take_more)

pub returns : goal.returns
returns c = c.loop-meter.invariant ∙ take_all _ c.args.meters.now c.loop-meter-test.false
