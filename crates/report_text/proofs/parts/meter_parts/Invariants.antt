use Rattle.std.proofs.Common.{◌≡◌, take, map}
use Rattle.std.specs.Prelude.{vec_capacity, length}
use Rattle.report_text.specs.Report.{meter_text}
use Rattle.report_text.proofs.parts.meter_parts.Given as goal

abbrev pub invariant-loop-slot : goal.invariant-loop-slot
invariant-loop-slot l = (l.parts.items ≡ map meter_text (take l.slot-index l.slots)) × (vec_capacity l.parts ≡ length l.slots)
