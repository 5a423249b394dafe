use Rattle.std.proofs.Common.{sym, arith}
use Rattle.record_values.proofs.Decimal.{digits_of-even, digits_of-odd}
use Rattle.record_values.proofs.digits.digit_at.Goals as goal

pub returns-then-place-eq0 : goal.returns-then-place-eq0
returns-then-place-eq0 c = sym (digits_of-even c.args.sent.now c.args.place (omega arith))

pub returns-else-place-eq0 : goal.returns-else-place-eq0
returns-else-place-eq0 c = sym (digits_of-odd c.args.sent.now c.args.place (omega arith))
