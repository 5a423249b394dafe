use Rattle.std.proofs.Common.{take}
use Rattle.std.specs.List.{All}
use Rattle.state_file.specs.Left.{IsLeft}
use Rattle.state_file.proofs.showing.show_slots.Given as goal

abbrev pub invariant-loop-place : goal.invariant-loop-place
invariant-loop-place l = All IsLeft (take l.place l.slots)
