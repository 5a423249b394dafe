use Rattle.std.proofs.Common.{◌≡◌, take}
use Rattle.input_check.specs.Noticing.{addresses}
use Rattle.input_check.proofs.noticing.addresses_of.Given as goal

abbrev pub invariant-loop-meter : goal.invariant-loop-meter
invariant-loop-meter l = l.all.items ≡ addresses (take l.meter-index l.meters)
