use Rattle.std.proofs.Common.{take}
use Rattle.std.specs.List.{flat_map}
use Rattle.paper.specs.Puts.{Puts}
use Rattle.stranger_ring.specs.Ring.{ring_of}
use Rattle.report_text.specs.Report.{ring_text}
use Rattle.report_text.proofs.writing.put_ring.Given as goal

abbrev pub invariant-loop-place : goal.invariant-loop-place
invariant-loop-place g l = Puts g.P.Paper.takes l.initial.paper (flat_map ring_text (take l.place (ring_of l.strangers))) l.paper
