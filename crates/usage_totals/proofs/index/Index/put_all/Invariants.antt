use Rattle.usage_totals.specs.Amounts.{amount_at}
use Rattle.usage_totals.specs.Indexed.{with_put}
use Rattle.usage_totals.proofs.Walks.{IsChanging}
use Rattle.usage_totals.proofs.index.Index.put_all.Given as goal

abbrev pub invariant-loop-key : goal.invariant-loop-key
invariant-loop-key l =
    (goal.iterator-loop-key).can_next l.key-iterator ×
    (goal.iterator-loop-key).is_finite l.key-iterator ×
    IsChanging l.row (λ q es. with_put l.number (amount_at q l.row) es) l.initial.self l.self l.key-iterator
