use Rattle.std.proofs.Common.{◌≡◌, ◌≤◌, map, take}
use Rattle.lists.specs.Each.{Each}
use Rattle.meter_slots.specs.Journal.{SlotView}
use Rattle.receivers.specs.Orders.{IsOrderedSlot}
use Rattle.audit_check_main.specs.Hearing.{tells, told_at}
use Rattle.audit_check_main.specs.MeterSteps.{HasStepped}
use Rattle.audit_check_main.specs.Stepping.{IsEventFor}
use Rattle.audit_check_main.proofs.stepping.step_meter.Given as goal

abbrev pub invariant-loop-pair : goal.invariant-loop-pair
invariant-loop-pair l = record {
  so : (target : SlotView) → IsOrderedSlot l.fn.own (map tells l.heard) l.fn.start l.order target
      → HasStepped (record { own = l.fn.own; start = l.fn.start; journal = take l.pair-index target.journal }) l.initial.paper
      l.steps l.paper;
  own_lines : Each (λ p. IsEventFor l.fn.start.address (told_at l.heard p.0 p.1)) (take l.pair-index l.order);
  steps_are : l.steps.steps ≡ l.pair-index;
  few : l.steps.readings ≤ l.steps.steps;
}
