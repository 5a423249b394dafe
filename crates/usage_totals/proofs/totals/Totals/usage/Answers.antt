use Rattle.std.proofs.Common.{ap, ◌∙◌}
use Rattle.usage_totals.specs.Usage.{usage_at}
use Rattle.usage_totals.specs.Table.{rows_at}
use Rattle.usage_totals.specs.Edits.{rows_after}
use Rattle.usage_totals.proofs.Tables.{kept_rows}
use Rattle.usage_totals.proofs.Payloads.{usage_kept}
use Rattle.usage_totals.proofs.totals.Totals.usage.Goals as goal

pub returns-clause-usage : goal.returns-clause-usage
returns-clause-usage c = λ edits s.
    let table = rows_after edits in
    c.usage_of.ensures.is
    ∙ ap (λ t. usage_at c.args.key.now (rows_at c.args.address t)) (c.self.view_is ∙ s.rows)
    ∙ ap (usage_at c.args.key.now) (kept_rows c.args.address table) ∙ usage_kept c.args.key.now (rows_at c.args.address table)
