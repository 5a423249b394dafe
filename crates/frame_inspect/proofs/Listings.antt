-- The lines of a payload are those of its listing.
use Rattle.std.proofs.Common.{◌≡◌, ℕ, zero, suc, ◌+◌, ◌-◌, ◌≤◌, List, [], ◌∷◌, ◌++◌, length, Option, Some, None, refl, sym, ap, ◌∙◌, append_assoc, arith}
use Rattle.std.specs.List.{flat_map, enumerate_from}
use Rattle.paper.specs.Pieces.{text_if}
use Rattle.dif_vif.specs.declared.fault.RecordFault.{RecordFault}
use Rattle.dif_vif.specs.declared.span.RecordSpan.{RecordSpan}
use Rattle.full_spans.specs.Listing.{IsFullListing}
use Rattle.full_spans.proofs.Found.{full_only, LiesWithin-from_full}
use Rattle.full_spans.proofs.Listings.{fault_inside, full_ending_is}
use Rattle.frame_inspect.specs.RecordLines.{record_line, fault_line, next_text, records_from}

pub listed_from : (n : ℕ) (payload : List ℕ) (number from : ℕ) (spans : List RecordSpan) (ending : Option RecordFault)
    → from ≤ length payload → length payload - from ≤ n → IsFullListing payload from spans ending
    → records_from n payload number from ≡ flat_map (record_line payload) (enumerate_from number spans) ++ text_if fault_line ending
unfolding records_from
listed_from zero payload number from [] None le few l = refl
listed_from (suc n) payload number from [] None le few l =
    ap (next_text (records_from n payload (number + 1)) payload number) (full_ending_is payload from None le l)
listed_from zero payload number from [] (Some fault) le few l =
    absurd (omega (arith, fault_inside payload from fault l))
listed_from (suc n) payload number from [] (Some fault) le few l =
    ap (next_text (records_from n payload (number + 1)) payload number) (full_ending_is payload from (Some fault) le l)
listed_from zero payload number from (span ∷ spans) ending le few l =
    let at = LiesWithin-from_full payload span l.0.1 in
    absurd (omega (arith, l.0.0.ordered, at.begins, at.ends, at.within))
listed_from (suc n) payload number from (span ∷ spans) ending le few l =
    let at = LiesWithin-from_full payload span l.0.1 in
    ap (next_text (records_from n payload (number + 1)) payload number) (full_only payload from (Some span) le l.0)
    ∙ ap (λ later. record_line payload (number, span) ++ later)
    (listed_from n payload (number + 1) span.end spans ending at.within (omega (arith, l.0.0.ordered, at.begins, at.ends)) l.1)
    ∙ sym (append_assoc (record_line payload (number, span)) (flat_map (record_line payload) (enumerate_from (number + 1) spans))
    (text_if fault_line ending))
