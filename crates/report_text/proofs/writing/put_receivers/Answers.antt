use Rattle.report_text.proofs.Texts.{end_put, no_end}
use Rattle.report_text.proofs.writing.put_receivers.Goals as goal

pub loop-place-init : goal.loop-place-init
loop-place-init g c = λ q all. all

pub loop-place-preserved : goal.loop-place-preserved
loop-place-preserved g c =
    λ q later. c.loop-place.invariant q (end_put c.args.ends.now c.loop-place.place _ c.loop-place-test.true c.put_receiver.ensures later)

pub returns : goal.returns
returns g c = c.loop-place.invariant _ (no_end c.args.ends.now c.loop-place.place c.loop-place-test.false)
