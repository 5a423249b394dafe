use Rattle.std.proofs.Common.{◌≡◌, ◌≤◌, ◌+◌, ◌*◌, ◌++◌, length, take}
use Rattle.std.specs.List.{flat_map}
use Rattle.afl_fragments.specs.Places.{parts_in}
use Rattle.afl_fragments.proofs.places.join.Given as goal

abbrev pub invariant-loop-held : goal.invariant-loop-held
invariant-loop-held l = record {
  written : l.out ≡ l.initial.out ++ flat_map (λ p. p.bytes) (parts_in (take l.held-index l.places));
  few : length l.out ≤ length l.initial.out + 242 * l.held-index;
}
