use Rattle.std.proofs.Common.{◌≡◌, ◌≤◌, ◌+◌, ◌*◌, drop, unsigned_abs}
use Rattle.full_records.specs.Powers.{power_in, value_after}
use Rattle.full_records.proofs.powers.value_after.Given as goal

abbrev pub invariant-loop-qualifier : goal.invariant-loop-qualifier
invariant-loop-qualifier l =
    (value_after l.value (drop l.qualifier-index l.qualifiers) ≡ value_after l.fn.value l.qualifiers)
    × (unsigned_abs (power_in l.value) ≤ 128 + 128 * l.qualifier-index)
