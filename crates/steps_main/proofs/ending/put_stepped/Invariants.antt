use Rattle.std.proofs.Common.{take}
use Rattle.std.specs.List.{flat_map}
use Rattle.paper.specs.Puts.{Puts}
use Rattle.steps_main.specs.Ending.{stepped_block}
use Rattle.steps_main.proofs.ending.put_stepped.Given as goal

abbrev pub invariant-loop-place : goal.invariant-loop-place
invariant-loop-place g l = Puts g.P.Paper.takes l.initial.paper (flat_map stepped_block (take l.place l.world)) l.paper
