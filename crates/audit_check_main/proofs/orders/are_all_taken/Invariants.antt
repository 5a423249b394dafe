use Rattle.std.proofs.Common.{◌≡◌, ◌+◌, ◌<◌, ℕ, length, get_or}
use Rattle.audit_check_main.specs.Hearing.{numbers_in_list}
use Rattle.audit_check_main.proofs.orders.are_all_taken.Given as goal

abbrev pub invariant-loop-receiver : goal.invariant-loop-receiver
invariant-loop-receiver l = (k : ℕ) → k < l.receiver → length (numbers_in_list l.heard l.list (k + 1)) ≡ get_or l.taken k 0
