-- A meter that stands for deliveries has executed rising counters.
use Rattle.meter_side_main.specs.Side.{Side}
use Rattle.meter_side_main.proofs.Executing.{stands_rising}
use Rattle.meter_side_main.proofs.side.MeterSide.executed.Goals as goal

pub returns-clause-rise : goal.returns-clause-rise
returns-clause-rise c =
    let l = c.self.inside.listener in
    let s : Side = record { own = l.own; commission = l.commission; last = l.last; executed = c.self.inside.executed.items } in
    rw (← c.self.view_is, c.as_slice.ensures.value) (λ deliveries h. stands_rising s deliveries c.self.invariant h)
