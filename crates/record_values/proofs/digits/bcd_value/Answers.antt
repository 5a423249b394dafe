use Rattle.record_values.proofs.ValueCases.{bcd-positive}
use Rattle.record_values.proofs.digits.bcd_value.Goals as goal

pub returns-else-digit_at-eq-NEGATIVE : goal.returns-else-digit_at-eq-NEGATIVE
returns-else-digit_at-eq-NEGATIVE c =
    bcd-positive c.args.sent.now c.digit_at.result _ _ c.digit_at.ensures c.if-digit_at-eq-NEGATIVE.false
    c.decimal_of-else-digit_at-eq-NEGATIVE.ensures c.positive.ensures
