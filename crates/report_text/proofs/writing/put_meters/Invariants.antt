use Rattle.std.proofs.Common.{take}
use Rattle.std.specs.List.{flat_map}
use Rattle.paper.specs.Puts.{Puts}
use Rattle.report_text.specs.Report.{meter_text}
use Rattle.report_text.proofs.writing.put_meters.Given as goal

abbrev pub invariant-loop-slot : goal.invariant-loop-slot
invariant-loop-slot g l = Puts g.P.Paper.takes l.initial.paper (flat_map meter_text (take l.slot-index l.slots)) l.paper
