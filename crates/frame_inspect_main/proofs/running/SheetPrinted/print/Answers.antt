use Rattle.frame_inspect_main.proofs.Sheets.{put_next_run}
use Rattle.frame_inspect_main.proofs.running.SheetPrinted.print.Goals as goal

pub loop-run-preserved : goal.loop-run-preserved
loop-run-preserved g c = λ q later. c.loop-run.invariant q
    (put_next_run (λ run. run.items) c.args.self.now.runs.now c.loop-run.run-index _ _ c.loop-run-test.true c.run-item.is
    c.deref.ensures.value c.put_run.ensures later)
