use Rattle.std.proofs.Common.{arith}
use Rattle.record_values.proofs.Decimal.{read_below}
use Rattle.record_values.proofs.digits.decimal_of.Goals as goal

pub overflow_mul-number : goal.overflow_mul-number
overflow_mul-number c =
    omega (arith, read_below c.args.sent.now c.args.count c.digits.left c.digits.number c.requires.few c.digits.invariant)

pub overflow_add-number : goal.overflow_add-number
overflow_add-number c =
    omega (arith, read_below c.args.sent.now c.args.count c.digits.left c.digits.number c.requires.few c.digits.invariant)
