use Rattle.std.proofs.Common.{◌≡◌, ◌++◌, map, take, drop}
use Rattle.afl_fragments.specs.Places.{older}
use Rattle.afl_fragments.proofs.places.grow_older.Given as goal

abbrev pub invariant-loop-held : goal.invariant-loop-held
invariant-loop-held l = l.places ≡ map older (take l.held-index l.initial.places) ++ drop l.held-index l.initial.places
