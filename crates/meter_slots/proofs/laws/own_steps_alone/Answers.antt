use Rattle.std.proofs.Common.{ap, map}
use Rattle.meter_slots.specs.World.{call_of, journal_of}
use Rattle.meter_slots.proofs.laws.own_steps_alone.Goals as goal

pub returns : goal.returns
returns _ c own xs ys e = ap (λ steps. record { own = own; start = c; journal = journal_of c own (map call_of steps) }) e
