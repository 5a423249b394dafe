-- What is made of the records from a place on, of so many at most, and where a listing ends.
use Rattle.std.proofs.Common.{◌≡◌, ℕ, zero, suc, ◌-◌, ◌<◌, ◌≤◌, List, length, Option, Some, None, Result, Ok, Err, ap, ◌∙◌, inl, inr, arith}
use Rattle.dif_vif.specs.declared.fault.RecordFault.{RecordFault}
use Rattle.dif_vif.specs.declared.fault.RecordFault.TheVariants.{Truncated, TooManyExtensions, Lvar, Selection, Special}
use Rattle.dif_vif.specs.declared.span.RecordSpan.{RecordSpan}
use Rattle.dif_vif.specs.Listing.{answer_of_ending}
use Rattle.full_spans.specs.Long.{CutsLong, EndsFullyBy, IsFullNext}
use Rattle.full_spans.specs.Walk.{next_full_of}
use Rattle.full_spans.specs.Listing.{IsFullEnding}
use Rattle.full_spans.proofs.Found.{full_only, ends_fully}

-- where some are left, by what comes next
pub next_full_left : {A : Type 0} (made : ℕ → A) (made_by : ℕ → Result (Option RecordSpan) RecordFault → A) (payload : List ℕ) (from : ℕ)
    → ((m : ℕ) → made (suc m) ≡ made_by m (next_full_of payload from)) → (n : ℕ) (next : Result (Option RecordSpan) RecordFault)
    → 0 < n → next_full_of payload from ≡ next → made n ≡ made_by (n - 1) next
next_full_left made made_by payload from step zero next some is = absurd (omega arith)
next_full_left made made_by payload from step (suc m) next some is =
    let one : m ≡ suc m - 1 = omega arith in
    step m ∙ ap (made_by m) is ∙ ap (λ k. made_by k next) one

-- a fault stands inside the bytes
cut_inside : (bytes : List ℕ) (from : ℕ) (fault : RecordFault) → CutsLong bytes from fault → from < length bytes
cut_inside bytes from (Truncated place) c = omega (arith, c.fillers.ordered, c.within)
cut_inside bytes from (Lvar lvar) c = absurd c
cut_inside bytes from (TooManyExtensions place) c = absurd c
cut_inside bytes from (Selection place) c = absurd c
cut_inside bytes from (Special dif) c = absurd c

pub fault_inside : (bytes : List ℕ) (from : ℕ) (fault : RecordFault) → EndsFullyBy bytes from fault → from < length bytes
fault_inside bytes from fault (inl n) = omega (arith, n.0.fillers.ordered, n.0.within)
fault_inside bytes from fault (inr c) = cut_inside bytes from fault c

pub full_ending_is : (bytes : List ℕ) (from : ℕ) (ending : Option RecordFault) → from ≤ length bytes → IsFullEnding bytes from ending
    → next_full_of bytes from ≡ answer_of_ending ending
full_ending_is bytes from None le n = full_only bytes from None le n
full_ending_is bytes from (Some fault) le n = ends_fully bytes from fault n
