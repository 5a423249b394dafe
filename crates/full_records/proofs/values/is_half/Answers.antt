use Rattle.std.proofs.Common.{arith}
use Rattle.record_values.proofs.Whole.{limit_below}
use Rattle.full_records.proofs.values.is_half.Goals as goal

pub pow-limit-requires : goal.pow-limit-requires
pow-limit-requires c = omega (arith, limit_below _ c.requires)

pub overflow_mul-result : goal.overflow_mul-result
overflow_mul-result c = omega (arith, limit_below _ c.requires)
