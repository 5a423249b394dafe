use Rattle.std.proofs.Common.{length, arith}
use Rattle.std.proofs.lemmas.Int.{ints}
use Rattle.record_values.proofs.Whole.{limit_below}
use Rattle.record_values.proofs.digits.signed_of.Goals as goal

pub pow-limit-requires : goal.pow-limit-requires
pow-limit-requires c = omega (arith, limit_below _ c.requires)

pub overflow_mul-number : goal.overflow_mul-number
overflow_mul-number c = omega (arith, limit_below _ c.requires)

pub overflow_cast-result-else-number-limit : goal.overflow_cast-result-else-number-limit
overflow_cast-result-else-number-limit c = omega (arith, ints, limit_below (length c.args.sent.now) c.requires)

pub overflow_cast-result-else-number-limit-2 : goal.overflow_cast-result-else-number-limit-2
overflow_cast-result-else-number-limit-2 c = omega (arith, ints, limit_below (length c.args.sent.now) c.requires)

pub overflow_sub-result : goal.overflow_sub-result
overflow_sub-result c = omega (arith, ints, limit_below (length c.args.sent.now) c.requires)
