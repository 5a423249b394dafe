use Rattle.std.proofs.Common.{take}
use Rattle.std.specs.List.{All}
use Rattle.afl_fragments.specs.Held.{held}
use Rattle.state_file.specs.Telling.{HasSpelt}
use Rattle.state_file.proofs.showing.show_parts.Given as goal

abbrev pub invariant-loop-place : goal.invariant-loop-place
invariant-loop-place l = All HasSpelt (take l.place (held l.known.told))
