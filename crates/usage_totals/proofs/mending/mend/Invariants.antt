use Rattle.std.proofs.Common.{remove}
use Rattle.usage_totals.specs.Usage.{side, usage_at}
use Rattle.usage_totals.proofs.KeyByKey.{IsMending}
use Rattle.usage_totals.proofs.mending.mend.Given as goal

abbrev pub invariant-loop-key : goal.invariant-loop-key
invariant-loop-key l =
    (goal.iterator-loop-key).can_next l.key-iterator ×
    (goal.iterator-loop-key).is_finite l.key-iterator ×
    IsMending (λ q. usage_at q (side l.comes (remove l.meter l.place) l.meter))
    (λ q. usage_at q (side l.comes l.meter (remove l.meter l.place)))
    l.initial.sums.entries l.sums.entries l.key-iterator
