use Rattle.std.proofs.Common.{◌≡◌, ◌≤◌, ◌-◌, length, take}
use Rattle.audit_check_main.proofs.comparing.common.Given as goal

abbrev pub invariant-bytes : goal.invariant-bytes
invariant-bytes l =
    record { in_text : l.count ≤ length l.text; in_other : l.count ≤ length l.other; same : take l.count l.text ≡ take l.count l.other }

abbrev pub decreases-bytes : goal.decreases-bytes
decreases-bytes l = length l.text - l.count
