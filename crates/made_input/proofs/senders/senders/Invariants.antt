use Rattle.std.proofs.Common.{◌≡◌, take}
use Rattle.made_input.proofs.senders.senders.Given as goal

abbrev pub invariant-loop-meter : goal.invariant-loop-meter
invariant-loop-meter l = l.senders.items ≡ take l.meter-index l.meters
