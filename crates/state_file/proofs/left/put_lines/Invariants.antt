use Rattle.std.proofs.Common.{take}
use Rattle.std.specs.List.{flat_map}
use Rattle.paper.specs.Puts.{Puts}
use Rattle.state_file.specs.Left.{slot_line}
use Rattle.state_file.proofs.left.put_lines.Given as goal

abbrev pub invariant-loop-slot : goal.invariant-loop-slot
invariant-loop-slot g l = Puts g.P.Paper.takes l.initial.paper (flat_map slot_line (take l.slot-index l.slots)) l.paper
