-- Records whose lines are put one after another, up to the first fault.
use Rattle.std.proofs.Common.{◌≡◌, ℕ, ◌+◌, ◌-◌, ◌<◌, List, [], Option, Some, Result, Ok, ap, refl}
use Rattle.std.specs.List.{flat_map, enumerate_from}
use Rattle.dif_vif.specs.declared.fault.RecordFault.{RecordFault}
use Rattle.dif_vif.specs.declared.span.RecordSpan.{RecordSpan}
use Rattle.dif_vif.specs.Listing.{next_spans}
use Rattle.full_spans.specs.Walk.{next_full_of}
use Rattle.full_spans.specs.Listing.{full_spans_from}
use Rattle.full_spans.proofs.Listings.{next_full_left}
use Rattle.paper.specs.Puts.{Puts}
use Rattle.paper.proofs.Calls.{none, then}
use Rattle.paper.proofs.Items.{is_put}
use Rattle.record_objects.specs.Records.{next_fault, fault_from}

-- what is listed by what comes next
pub spans_next : (n : ℕ) (payload : List ℕ) (from : ℕ) (next : Result (Option RecordSpan) RecordFault) → 0 < n → next_full_of payload from ≡ next
    → full_spans_from n payload from ≡ next_spans (full_spans_from (n - 1) payload) next
unfolding full_spans_from
spans_next n payload from = next_full_left (λ m. full_spans_from m payload from) (λ m. next_spans (full_spans_from m payload)) payload from (λ m. refl) n

pub fault_next : (n : ℕ) (payload : List ℕ) (from : ℕ) (next : Result (Option RecordSpan) RecordFault) → 0 < n → next_full_of payload from ≡ next
    → fault_from n payload from ≡ next_fault (fault_from (n - 1) payload) next
unfolding fault_from
fault_next n payload from = next_full_left (λ m. fault_from m payload from) (λ m. next_fault (fault_from m payload)) payload from (λ m. refl) n

-- a line is put
pub line_more : {P : Type 0} {takes : P → List ℕ → P → Type 0} {p q r : P} (line : ℕ × RecordSpan → List ℕ) (n : ℕ) (payload : List ℕ)
    (from : ℕ) (span : RecordSpan) (number : ℕ)
    → 0 < n → next_full_of payload from ≡ Ok (Some span) → Puts takes p (line (number, span)) q
    → Puts takes q (flat_map line (enumerate_from (number + 1) (full_spans_from (n - 1) payload span.end))) r
    → Puts takes p (flat_map line (enumerate_from number (full_spans_from n payload from))) r
line_more line n payload from span number some is one later =
    is_put _ _ (ap (λ spans. flat_map line (enumerate_from number spans)) (spans_next n payload from (Ok (Some span)) some is))
    (then one later)

-- no more lines are put
pub lines_end : {P : Type 0} {takes : P → List ℕ → P → Type 0} {p : P} (line : ℕ × RecordSpan → List ℕ) (n : ℕ) (payload : List ℕ)
    (from number : ℕ)
    → full_spans_from n payload from ≡ [] → Puts takes p (flat_map line (enumerate_from number (full_spans_from n payload from))) p
lines_end line n payload from number e = is_put _ _ (ap (λ spans. flat_map line (enumerate_from number spans)) e) none
