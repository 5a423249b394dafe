use Rattle.std.proofs.Common.{◌≡◌, take, Some}
use Rattle.afl_fragments.specs.Held.{front}
use Rattle.afl_fragments.specs.Places.{held_in, parts_in}
use Rattle.afl_fragments.proofs.places.is_front_held.Given as goal

abbrev pub invariant-loop-place : goal.invariant-loop-place
invariant-loop-place l = front l.place (held_in l.places l.order) ≡ Some (parts_in (take l.place l.places))
