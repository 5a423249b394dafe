use Rattle.std.proofs.Common.{take}
use Rattle.std.specs.List.{flat_map}
use Rattle.paper.specs.Puts.{Puts}
use Rattle.state_changes.specs.Printing.{capped_block}
use Rattle.state_changes.proofs.raising.put_all.Given as goal

abbrev pub invariant-loop-start : goal.invariant-loop-start
invariant-loop-start g l =
    Puts g.P.Paper.takes l.initial.paper (flat_map (capped_block l.by) (take l.start-index l.starts)) l.paper
