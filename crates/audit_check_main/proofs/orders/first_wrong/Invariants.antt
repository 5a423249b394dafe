use Rattle.std.proofs.Common.{ℕ, ◌<◌, [], get_or}
use Rattle.audit_check_main.specs.Hearing.{numbers_in_list}
use Rattle.audit_check_main.specs.Order.{IsRight}
use Rattle.audit_check_main.proofs.orders.first_wrong.Given as goal

abbrev pub invariant-loop-list : goal.invariant-loop-list
invariant-loop-list l = (k : ℕ) → k < l.list → IsRight (numbers_in_list l.heard k) (get_or l.lists k [])
