use Rattle.std.proofs.Common.{take}
use Rattle.std.specs.List.{All}
use Rattle.state_file.specs.Written.{IsStart}
use Rattle.state_file.proofs.showing.show_starts.Given as goal

abbrev pub invariant-loop-place : goal.invariant-loop-place
invariant-loop-place l = All IsStart (take l.place l.starts)
