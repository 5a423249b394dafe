use Rattle.std.proofs.Common.{take}
use Rattle.std.specs.List.{All}
use Rattle.steps_main.specs.Ending.{IsTellable}
use Rattle.steps_main.proofs.leaving.show_each.Given as goal

abbrev pub invariant-loop-place : goal.invariant-loop-place
invariant-loop-place l = All IsTellable (take l.place l.world)
