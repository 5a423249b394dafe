use Rattle.std.proofs.Common.{◌≤◌, length, arith}
use Rattle.record_values.proofs.Whole.{limit_below}
use Rattle.compact_profiles.proofs.sent_values.is_lowest.Goals as goal

pub pow-limit-requires : goal.pow-limit-requires
pow-limit-requires c =
    let few : length c.args.sent.now ≤ 15 = omega arith in
    omega (arith, limit_below (length c.args.sent.now) few)

pub overflow_mul-result : goal.overflow_mul-result
overflow_mul-result c =
    let few : length c.args.sent.now ≤ 15 = omega arith in
    omega (arith, limit_below (length c.args.sent.now) few)
