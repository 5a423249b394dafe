use Rattle.std.proofs.Common.{ap, sym}
use Rattle.paper.specs.Pieces.{text_if}
use Rattle.paper.proofs.Items.{is_put, one_at}
use Rattle.usage_totals.specs.Usage.{usage_at}
use Rattle.usage_totals.specs.Table.{rows_at}
use Rattle.usage_totals.specs.Texts.{usage_line}
use Rattle.usage_totals.proofs.texts.put_usages.Goals as goal

pub loop-key-preserved : goal.loop-key-preserved
loop-key-preserved g c =
    one_at (λ key. text_if (usage_line c.args.meter key) (usage_at key (rows_at c.args.address c.args.totals.now))) c.args.keys.now _ _
    c.loop-key-test.true c.loop-key.invariant
    (is_put _ _ (ap (text_if (usage_line c.args.meter _)) (sym c.usage.ensures.kept)) c.put_usage_if.ensures)
