use Rattle.std.proofs.Common.{take}
use Rattle.std.specs.List.{All}
use Rattle.meter_slots.specs.Laws.{HasPayload}
use Rattle.meter_slots.proofs.commands.show_payloads.Given as goal

abbrev pub invariant-loop-place : goal.invariant-loop-place
invariant-loop-place l = All HasPayload (take l.place l.queue.commands)
