use Rattle.std.proofs.Common.{◌≡◌, take, map}
use Rattle.meter_slots.proofs.start.addresses_of.Given as goal

abbrev pub invariant-loop-place : goal.invariant-loop-place
invariant-loop-place l = l.addresses.items ≡ map (λ c. c.address) (take l.place l.starts)
