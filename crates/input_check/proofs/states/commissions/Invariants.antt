use Rattle.std.proofs.Common.{◌≡◌, take, map}
use Rattle.meter_slots.specs.Journal.{commission_of}
use Rattle.input_check.proofs.states.commissions.Given as goal

abbrev pub invariant-loop-place : goal.invariant-loop-place
invariant-loop-place l = l.meters.items ≡ map commission_of (take l.place l.starts)
