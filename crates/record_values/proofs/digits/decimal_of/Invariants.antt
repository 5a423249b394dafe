use Rattle.record_values.proofs.Decimal.{IsRead}
use Rattle.record_values.proofs.digits.decimal_of.Given as goal

abbrev pub invariant-digits : goal.invariant-digits
invariant-digits l = IsRead l.sent l.count l.left l.number

abbrev pub decreases-digits : goal.decreases-digits
decreases-digits l = l.left
