use Rattle.std.proofs.Common.{ap, ◌∙◌}
use Rattle.usage_totals.specs.Sums.{total_at, as_pair}
use Rattle.usage_totals.specs.Edits.{rows_after}
use Rattle.usage_totals.proofs.Payloads.{total_kept}
use Rattle.usage_totals.proofs.totals.Totals.total.Goals as goal

pub returns-clause-total : goal.returns-clause-total
returns-clause-total c = λ edits s.
    c.pair_of.ensures
    ∙ ap as_pair (c.sum.ensures.is ∙ ap (total_at c.args.key.now) s.rows ∙ total_kept c.args.key.now (rows_after edits))
