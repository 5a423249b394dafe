-- The spans of a payload, found one after another.
use Rattle.std.proofs.Common.{◌≡◌, ℕ, zero, suc, ◌-◌, ◌<◌, ◌≤◌, List, [], ◌∷◌, length, Option, Some, None, Result, Ok, Err, refl, sym, ap, ◌∙◌, arith}
use Rattle.dif_vif.specs.declared.fault.RecordFault.{RecordFault}
use Rattle.dif_vif.specs.declared.span.RecordSpan.{RecordSpan}
use Rattle.dif_vif.specs.Reading.{next_of}
use Rattle.dif_vif.specs.Listing.{IsListing, next_spans, spans_from}
use Rattle.dif_vif.proofs.Spans.{next_of-end, next_found, LiesWithin-from_span}
use Rattle.dif_vif.proofs.Listings.{ending_is, next_is}

-- nothing, or a fault, ends the spans
pub spans_done : (n : ℕ) (bytes : List ℕ) (from : ℕ) → next_of bytes from ≡ Ok None → spans_from n bytes from ≡ []
unfolding spans_from
spans_done zero bytes from e = refl
spans_done (suc n) bytes from e = ap (next_spans (spans_from n bytes)) e

pub spans_stopped : (n : ℕ) (bytes : List ℕ) (from : ℕ) (fault : RecordFault) → next_of bytes from ≡ Err fault
    → spans_from n bytes from ≡ []
unfolding spans_from
spans_stopped zero bytes from fault e = refl
spans_stopped (suc n) bytes from fault e = ap (next_spans (spans_from n bytes)) e

-- how many there may be makes no difference, once there may be one for each byte
same_by : (n m : ℕ) (bytes : List ℕ) (from : ℕ) (next : Result (Option RecordSpan) RecordFault) → from ≤ length bytes
    → next_of bytes from ≡ next
    → ((at : ℕ) → at ≤ length bytes → from < at → spans_from n bytes at ≡ spans_from m bytes at)
    → next_spans (spans_from n bytes) next ≡ next_spans (spans_from m bytes) next
same_by n m bytes from (Ok (Some span)) le e same =
    let next = next_found bytes from (Some span) le e in
    let at = LiesWithin-from_span bytes span next.1 in
    ap (λ spans. span ∷ spans) (same span.end at.within (omega (arith, next.0.ordered, at.begins, at.ends)))
same_by n m bytes from (Ok None) le e same = refl
same_by n m bytes from (Err fault) le e same = refl

spans_enough : (n m : ℕ) (bytes : List ℕ) (from : ℕ) → from ≤ length bytes → length bytes - from ≤ n → length bytes - from ≤ m
    → spans_from n bytes from ≡ spans_from m bytes from
unfolding spans_from
spans_enough zero zero bytes from le few many = refl
spans_enough zero (suc m) bytes from le few many = sym (spans_done (suc m) bytes from (next_of-end bytes from (omega arith)))
spans_enough (suc n) zero bytes from le few many = spans_done (suc n) bytes from (next_of-end bytes from (omega arith))
spans_enough (suc n) (suc m) bytes from le few many =
    same_by n m bytes from (next_of bytes from) le refl (λ at within further. spans_enough n m bytes at within (omega arith) (omega arith))

-- the next span stands before all later ones
pub spans_here : (bytes : List ℕ) (from : ℕ) (span : RecordSpan) → from ≤ length bytes → next_of bytes from ≡ Ok (Some span)
    → spans_from (length bytes) bytes from ≡ span ∷ spans_from (length bytes) bytes span.end
unfolding spans_from
spans_here bytes from span le e =
    spans_enough (length bytes) (suc (length bytes)) bytes from le (omega arith) (omega arith)
    ∙ ap (next_spans (spans_from (length bytes) bytes)) e

-- the spans of a listing are those that are found
listed_from : (n : ℕ) (bytes : List ℕ) (from : ℕ) (spans : List RecordSpan) (ending : Option RecordFault) → from ≤ length bytes
    → length bytes - from ≤ n
    → IsListing bytes from spans ending → spans_from n bytes from ≡ spans
unfolding spans_from
listed_from n bytes from [] None le few l = spans_done n bytes from (ending_is bytes from None l)
listed_from n bytes from [] (Some fault) le few l = spans_stopped n bytes from fault (ending_is bytes from (Some fault) l)
listed_from zero bytes from (span ∷ spans) ending le few l =
    let at = LiesWithin-from_span bytes span l.0.1 in
    absurd (omega (arith, l.0.0.ordered, at.begins, at.ends, at.within))
listed_from (suc n) bytes from (span ∷ spans) ending le few l =
    let at = LiesWithin-from_span bytes span l.0.1 in
    ap (next_spans (spans_from n bytes)) (next_is bytes from span l.0)
    ∙ ap (λ others. span ∷ others)
    (listed_from n bytes span.end spans ending at.within (omega (arith, l.0.0.ordered, at.begins, at.ends)) l.1)

pub listed : (bytes : List ℕ) (spans : List RecordSpan) (ending : Option RecordFault) → IsListing bytes 0 spans ending
    → spans_from (length bytes) bytes 0 ≡ spans
listed bytes spans ending l = listed_from (length bytes) bytes 0 spans ending (omega arith) (omega arith) l
