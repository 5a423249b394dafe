use Rattle.paper.proofs.Items.{one_at}
use Rattle.usage_totals.specs.Sums.{total_at}
use Rattle.usage_totals.specs.Texts.{total_line}
use Rattle.usage_totals.proofs.texts.put_totals.Goals as goal

pub loop-key-preserved : goal.loop-key-preserved
loop-key-preserved g c =
    one_at (λ key. total_line key (total_at key c.args.totals.now)) c.args.keys.now _ _
    c.loop-key-test.true c.loop-key.invariant c.put_total_of.ensures
