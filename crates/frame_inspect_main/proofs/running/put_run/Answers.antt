use Rattle.paper.proofs.Items.{put_next}
use Rattle.frame_inspect_main.proofs.running.put_run.Goals as goal

pub loop-shown-preserved : goal.loop-shown-preserved
loop-shown-preserved g c = λ q later. c.loop-shown.invariant q
    (put_next c.args.run.now c.loop-shown.shown-index _ _ c.loop-shown-test.true c.shown-item.is c.bytes.ensures c.put.ensures later)
