use Rattle.std.proofs.Common.{◌≡◌, ◌≤◌, drop, length}
use Rattle.dif_vif.specs.Numbers.{low_first}
use Rattle.record_values.proofs.digits.unsigned_of.Given as goal

abbrev pub invariant-bytes : goal.invariant-bytes
invariant-bytes l = (l.left ≤ length l.sent) × (l.number ≡ low_first 256 (drop l.left l.sent))

abbrev pub decreases-bytes : goal.decreases-bytes
decreases-bytes l = l.left
