use Rattle.std.proofs.Common.{ap}
use Rattle.usage_totals.specs.declared.sums.Sum.{Sum}
use Rattle.usage_totals.specs.Edits.{rows_after}
use Rattle.usage_totals.proofs.EachMeter.{each_has_its_rows, total_is_sum}
use Rattle.usage_totals.proofs.laws.totals_are_sums_over_meters.Goals as goal

pub returns-clause-meters : goal.returns-clause-meters
returns-clause-meters c = λ edits key. ap (λ (s : Sum). s.meters) (total_is_sum (rows_after edits) key)

pub returns-clause-amount : goal.returns-clause-amount
returns-clause-amount c = λ edits key. ap (λ (s : Sum). s.amount) (total_is_sum (rows_after edits) key)

pub returns-clause-once : goal.returns-clause-once
returns-clause-once c = each_has_its_rows
