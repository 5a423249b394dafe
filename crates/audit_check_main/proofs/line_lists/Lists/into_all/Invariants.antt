use Rattle.std.proofs.Common.{◌≡◌, ◌-◌, ◌≤◌, length, vec_len}
use Rattle.audit_check_main.specs.Lists.{as_many}
use Rattle.audit_check_main.proofs.line_lists.Lists.into_all.Given as goal

abbrev pub invariant-lists : goal.invariant-lists
invariant-lists l = record { same : as_many l.meters l.all.items ≡ as_many l.meters l.fn.self.meters; few : length l.all.items ≤ l.meters }

abbrev pub decreases-lists : goal.decreases-lists
decreases-lists l = l.meters - vec_len l.all
