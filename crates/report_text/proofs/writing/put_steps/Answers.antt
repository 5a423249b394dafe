use Rattle.report_text.proofs.Texts.{entry_put}
use Rattle.report_text.proofs.writing.put_steps.Goals as goal

pub loop-entry-preserved : goal.loop-entry-preserved
loop-entry-preserved g c = λ q later. c.loop-entry.invariant q
    (entry_put c.loop-entry.left.now c.args.journal.now c.loop-entry.entry-index c.entry-item.result _ _ c.loop-entry-test.true
    c.entry-item.is
    c.first.ensures.value c.readings_after-left.ensures c.put_step.ensures later)
