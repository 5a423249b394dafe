use Rattle.usage_totals.proofs.Numbering.{empty_indexed}
use Rattle.usage_totals.proofs.meter.Meter.new.Goals as goal

pub invariant_of-result : goal.invariant_of-result
invariant_of-result c = empty_indexed c.new.result.items c.new-2.result c.new.ensures.items c.new-2.ensures
