use Rattle.std.proofs.Common.{◌≡◌, map, take, length}
use Rattle.meter_slots.specs.World.{fresh_slot}
use Rattle.meter_worlds.proofs.world.fresh_slots.Given as goal

abbrev pub invariant-loop-start : goal.invariant-loop-start
invariant-loop-start l = l.slots.items ≡ map (fresh_slot l.fn.own) (take (length l.yielded) l.fn.starts.items)
