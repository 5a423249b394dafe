use Rattle.std.proofs.Common.{take}
use Rattle.std.specs.List.{All}
use Rattle.state_file.specs.Telling.{IsSayable}
use Rattle.state_file.proofs.showing.show_commands.Given as goal

abbrev pub invariant-loop-place : goal.invariant-loop-place
invariant-loop-place l = All IsSayable (take l.place l.queue.commands)
