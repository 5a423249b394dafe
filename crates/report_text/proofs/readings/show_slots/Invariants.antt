use Rattle.std.proofs.Common.{take}
use Rattle.std.specs.List.{All}
use Rattle.report_text.specs.Readings.{LastIsNumbered}
use Rattle.report_text.proofs.readings.show_slots.Given as goal

abbrev pub invariant-loop-slot : goal.invariant-loop-slot
invariant-loop-slot l = All LastIsNumbered (take l.slot-index l.slots)
