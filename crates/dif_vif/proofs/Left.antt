-- What is made of the records from a place on, of so many at most.
use Rattle.std.proofs.Common.{◌≡◌, ℕ, zero, suc, ◌-◌, ◌<◌, List, Option, Result, ap, ◌∙◌, arith}
use Rattle.dif_vif.specs.declared.fault.RecordFault.{RecordFault}
use Rattle.dif_vif.specs.declared.span.RecordSpan.{RecordSpan}
use Rattle.dif_vif.specs.Reading.{next_of}

-- where some are left, by what comes next
pub next_left : {A : Type 0} (made : ℕ → A) (made_by : ℕ → Result (Option RecordSpan) RecordFault → A) (payload : List ℕ) (from : ℕ)
    → ((m : ℕ) → made (suc m) ≡ made_by m (next_of payload from)) → (n : ℕ) (next : Result (Option RecordSpan) RecordFault)
    → 0 < n → next_of payload from ≡ next → made n ≡ made_by (n - 1) next
next_left made made_by payload from step zero next some is = absurd (omega arith)
next_left made made_by payload from step (suc m) next some is =
    let one : m ≡ suc m - 1 = omega arith in
    step m ∙ ap (made_by m) is ∙ ap (λ k. made_by k next) one
