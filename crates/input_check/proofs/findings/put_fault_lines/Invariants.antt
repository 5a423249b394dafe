use Rattle.std.proofs.Common.{take, flat_map}
use Rattle.paper.specs.Puts.{Puts}
use Rattle.input_check.specs.Findings.{fault_line}
use Rattle.input_check.proofs.findings.put_fault_lines.Given as goal

abbrev pub invariant-loop-fault : goal.invariant-loop-fault
invariant-loop-fault g l = Puts g.P.Paper.takes l.initial.paper (flat_map fault_line (take l.fault-index l.faults)) l.paper
