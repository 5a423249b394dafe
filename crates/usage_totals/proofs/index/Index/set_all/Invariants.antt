use Rattle.std.proofs.Common.{cond, is_some}
use Rattle.usage_totals.specs.Amounts.{amount_at}
use Rattle.usage_totals.specs.Indexed.{with_set}
use Rattle.usage_totals.proofs.Walks.{IsChanging}
use Rattle.usage_totals.proofs.index.Index.set_all.Given as goal

abbrev pub invariant-loop-key : goal.invariant-loop-key
invariant-loop-key l =
    (goal.iterator-loop-key).can_next l.key-iterator ×
    (goal.iterator-loop-key).is_finite l.key-iterator ×
    IsChanging l.keys (λ q es. cond (is_some (amount_at q l.keys)) (with_set l.number (amount_at q l.row) es) es) l.initial.self l.self
    l.key-iterator
