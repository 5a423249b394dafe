use Rattle.std.proofs.Common.{◌≡◌, List, map, take, length}
use Rattle.lists.specs.Each.{Each}
use Rattle.stranger_ring.specs.declared.strangers.Heard.{Heard}
use Rattle.receivers.specs.Orders.{AreOrderedStrangers}
use Rattle.audit_check_main.specs.declared.hearing.Sort.TheVariants as sorts
use Rattle.audit_check_main.specs.Hearing.{tells, told_at, sort_of}
use Rattle.audit_check_main.proofs.stepping.note_strangers.Given as goal

abbrev pub invariant-loop-pair : goal.invariant-loop-pair
invariant-loop-pair l = record {
  so : (target : List Heard) → AreOrderedStrangers l.meters (map tells l.heard) l.order target → l.strangers ≡ take l.pair-index target;
  own_lines : Each (λ p. sort_of l.directory (told_at l.heard p.0 p.1) ≡ sorts.Listed (length l.meters)) (take l.pair-index l.order);
}
