use Rattle.std.proofs.Common.{take}
use Rattle.std.specs.List.{flat_map}
use Rattle.paper.specs.Puts.{Puts}
use Rattle.steps_main.specs.Ending.{meter_block}
use Rattle.steps_main.proofs.leaving.put_blocks.Given as goal

abbrev pub invariant-loop-place : goal.invariant-loop-place
invariant-loop-place g l = Puts g.P.Paper.takes l.initial.paper (flat_map meter_block (take l.place l.world)) l.paper
