use Rattle.std.proofs.Common.{◌≡◌, ◌≤◌, ◌*◌, take}
use Rattle.afl_fragments.specs.Held.{held_bytes}
use Rattle.afl_fragments.specs.Places.{held_in}
use Rattle.afl_fragments.proofs.places.count_bytes.Given as goal

abbrev pub invariant-loop-place : goal.invariant-loop-place
invariant-loop-place l = record {
  total : l.bytes ≡ held_bytes (held_in l.places (take l.place-index l.order));
  few : l.bytes ≤ 242 * l.place-index;
}
