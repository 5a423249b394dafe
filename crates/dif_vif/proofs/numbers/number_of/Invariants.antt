use Rattle.std.proofs.Common.{◌≡◌, ◌/◌, ◌%◌, ◌≤◌, drop, length, map}
use Rattle.dif_vif.specs.Numbers.{low_first}
use Rattle.dif_vif.proofs.numbers.number_of.Given as goal

abbrev pub invariant-digits : goal.invariant-digits
invariant-digits l =
    (l.left ≤ length l.difes) × (l.number ≡ low_first l.base (map (λ dife. dife / l.lowest % l.base) (drop l.left l.difes)))

abbrev pub decreases-digits : goal.decreases-digits
decreases-digits l = l.left
