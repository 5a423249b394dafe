use Rattle.std.proofs.Common.{arith}
use Rattle.record_values.proofs.Whole.{whole_below, all_below}
use Rattle.record_values.proofs.digits.unsigned_of.Goals as goal

pub overflow_mul-number : goal.overflow_mul-number
overflow_mul-number c =
    omega (
      arith,
      whole_below c.args.sent.now c.bytes.left c.bytes.number c.requires (λ i. omega (arith, c.type_inv.sent i))
          c.bytes.invariant.1,
    )

pub overflow_add-number : goal.overflow_add-number
overflow_add-number c =
    omega (
      arith,
      whole_below c.args.sent.now c.bytes.left c.bytes.number c.requires (λ i. omega (arith, c.type_inv.sent i))
          c.bytes.invariant.1,
    )

pub returns-clause-below : goal.returns-clause-below
returns-clause-below c =
    all_below c.args.sent.now c.bytes.left c.bytes.number c.bytes-test.false (λ i. omega (arith, c.type_inv.sent i)) c.bytes.invariant.1
