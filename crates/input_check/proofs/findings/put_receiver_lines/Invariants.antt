use Rattle.std.proofs.Common.{take, flat_map}
use Rattle.paper.specs.Puts.{Puts}
use Rattle.input_check.specs.Findings.{receiver_line}
use Rattle.input_check.proofs.findings.put_receiver_lines.Given as goal

abbrev pub invariant-loop-faulty : goal.invariant-loop-faulty
invariant-loop-faulty g l = Puts g.P.Paper.takes l.initial.paper (flat_map (receiver_line l.receiver) (take l.faulty-index l.first)) l.paper
