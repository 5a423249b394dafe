use Rattle.std.proofs.Common.{take}
use Rattle.std.specs.List.{flat_map}
use Rattle.paper.specs.Puts.{Puts}
use Rattle.state_changes.specs.Printing.{merged_block}
use Rattle.state_changes.proofs.merging.put_all.Given as goal

abbrev pub invariant-loop-meter : goal.invariant-loop-meter
invariant-loop-meter g l =
    Puts g.P.Paper.takes l.initial.paper (flat_map (merged_block l.starts) (take l.meter-index l.meters)) l.paper
