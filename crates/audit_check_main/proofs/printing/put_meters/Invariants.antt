use Rattle.std.proofs.Common.{◌≡◌, map, take, length}
use Rattle.audit_check_main.specs.Hearing.{tells, AreListedBelow}
use Rattle.audit_check_main.specs.Printing.{AreMetersPut}
use Rattle.audit_check_main.specs.Stepping.{IsOrderOfEach}
use Rattle.audit_check_main.proofs.printing.put_meters.Given as goal

abbrev pub invariant-loop-start : goal.invariant-loop-start
invariant-loop-start l = record {
  count : l.list ≡ length l.yielded;
  put : IsOrderOfEach (map tells l.fn.heard) l.fn.meters.items l.fn.lists
      → AreMetersPut l.fn.own (map tells l.fn.heard) (take l.list l.fn.meters.items) l.fn.lists
      (record { report = l.initial.paper; next = l.initial.next }) (record { report = l.paper; next = l.next });
  own_lines : AreListedBelow l.list (map (λ c. c.address) l.fn.meters.items) l.fn.heard l.fn.lists;
}
