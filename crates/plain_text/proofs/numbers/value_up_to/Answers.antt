use Rattle.plain_text.proofs.Plain.{taken, too_large}
use Rattle.plain_text.proofs.numbers.value_up_to.Goals as goal

pub returns-in_err-value : goal.returns-in_err-value
returns-in_err-value c =
    rw c.from_residual.ensures
    (too_large c.args.digits.now c.loop-byte.byte-index c.loop-byte.value c.args.most c.with_digit.result c.requires
    c.loop-byte-test.true c.loop-byte.invariant.0 c.with_digit.ensures c.in_err-value.was)

pub loop-byte-preserved : goal.loop-byte-preserved
loop-byte-preserved c =
    taken c.args.digits.now c.loop-byte.byte-index c.loop-byte.value c.args.most c.in_ok-value.value c.with_digit.result c.requires
    c.loop-byte-test.true c.loop-byte.invariant.0 c.with_digit.ensures c.in_ok-value.was
