use Rattle.std.proofs.Common.{arith}
use Rattle.dif_vif.proofs.Digits.{number_bound, times_base}
use Rattle.dif_vif.proofs.numbers.number_of.Goals as goal

pub overflow_mul-number : goal.overflow_mul-number
overflow_mul-number c =
    let bound =
    number_bound c.args.base c.args.lowest c.args.difes.now c.digits.left c.digits.number c.requires.base c.requires.few
    c.digits.invariant.1 in
    let times = times_base c.args.base c.digits.number c.requires.small bound in
    rw c.from.ensures (omega arith)

pub overflow_add-number : goal.overflow_add-number
overflow_add-number c =
    let bound =
    number_bound c.args.base c.args.lowest c.args.difes.now c.digits.left c.digits.number c.requires.base c.requires.few
    c.digits.invariant.1 in
    let times = times_base c.args.base c.digits.number c.requires.small bound in
    rw c.from.ensures (omega arith)

pub returns-clause-bound : goal.returns-clause-bound
returns-clause-bound c =
    number_bound c.args.base c.args.lowest c.args.difes.now c.digits.left c.digits.number c.requires.base c.requires.few
    c.digits.invariant.1
