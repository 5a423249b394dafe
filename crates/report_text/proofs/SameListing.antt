-- The report lists the records that the JSON tells.
use Rattle.std.proofs.Common.{◌≡◌, ℕ, zero, suc, List, [], ◌∷◌, ◌++◌, Bool, true, false, Option, Some, None, Result, Ok, Err, sym}
use Rattle.std.proofs.Common.{ap, ◌∙◌, refl, append_assoc, arith}
use Rattle.std.specs.Prelude.{codes, if◌then◌else◌}
use Rattle.std.specs.List.{flat_map}
use Rattle.std.proofs.lemmas.List.{append-nil}
use Rattle.paper.specs.Pieces.{text_if}
use Rattle.dif_vif.specs.declared.fault.RecordFault.{RecordFault}
use Rattle.dif_vif.specs.declared.span.RecordSpan.{RecordSpan}
use Rattle.dif_vif.specs.Listing.{spans_from}
use Rattle.dif_vif.specs.Reading.{next_of}
use Rattle.dif_vif.proofs.Listed.{spans_done, spans_stopped}
use Rattle.record_text.specs.Lines.{span_line, fault_line}
use Rattle.record_text.specs.RecordText.{more_text, next_text, listed}
use Rattle.report_text.specs.Readings.{fault_behind, more_behind}
use Rattle.report_text.specs.ReadingsLaw.{JsonListsTheReport}
use Rattle.report_text.proofs.ListedEnds.{spans_next, none_is_few, end_from, end_next, end_here}

-- the lines behind the records, where this comes behind them
abbrev last_lines : Bool → Result (Option RecordSpan) RecordFault → List ℕ
last_lines full next = text_if fault_line (fault_behind full next) ++ (if more_behind full next then codes "more\n" else [])

-- the lines of so many records at most from a place on, and of what comes behind them
abbrev told_from : ℕ → List ℕ → ℕ → List ℕ
told_from n payload from = flat_map (span_line payload) (spans_from n payload from) ++ end_from last_lines n payload from

at_most : (next : Result (Option RecordSpan) RecordFault) → more_text next ≡ last_lines true next
at_most (Ok None) = refl
at_most _ = refl

nothing_more : (n : ℕ) (payload : List ℕ) (from : ℕ) (next : Result (Option RecordSpan) RecordFault) → next_of payload from ≡ next
    → spans_from (suc n) payload from ≡ [] → next_text (listed n payload) payload next ≡ last_lines false next
    → listed (suc n) payload from ≡ told_from (suc n) payload from
unfolding listed
nothing_more n payload from next is none text =
    ap (next_text (listed n payload) payload) is ∙ text
    ∙ sym (end_here last_lines (suc n) payload from false next none (none_is_few (suc n) (omega arith)) is)
    ∙ ap (λ spans. flat_map (span_line payload) spans ++ end_from last_lines (suc n) payload from) (sym none)

one_more : (n : ℕ) (payload : List ℕ) (from : ℕ) (span : RecordSpan) → next_of payload from ≡ Ok (Some span)
    → listed n payload span.end ≡ told_from n payload span.end
    → listed (suc n) payload from ≡ told_from (suc n) payload from
unfolding listed
one_more n payload from span is later =
    let rest = spans_from n payload span.end in
    ap (next_text (listed n payload) payload) is ∙ ap (λ t. span_line payload span ++ t) later
    ∙ sym (append_assoc (span_line payload span) _ _)
    ∙ ap (λ t. flat_map (span_line payload) (span ∷ rest) ++ t) (sym (end_next last_lines n payload from span is))
    ∙ ap (λ spans. flat_map (span_line payload) spans ++ end_from last_lines (suc n) payload from) (sym (spans_next n payload from span is))

stepped : (n : ℕ) (payload : List ℕ) (from : ℕ) (next : Result (Option RecordSpan) RecordFault) → next_of payload from ≡ next
    → ((place : ℕ) → listed n payload place ≡ told_from n payload place) → listed (suc n) payload from ≡ told_from (suc n) payload from
stepped n payload from (Ok None) is later = nothing_more n payload from (Ok None) is (spans_done (suc n) payload from is) refl
stepped n payload from (Ok (Some span)) is later = one_more n payload from span is (later span.end)
stepped n payload from (Err fault) is later =
    nothing_more n payload from (Err fault) is (spans_stopped (suc n) payload from fault is) (sym (append-nil (fault_line fault)))

from_any : (n : ℕ) (payload : List ℕ) (from : ℕ) → listed n payload from ≡ told_from n payload from
unfolding spans_from listed
from_any zero payload from = at_most (next_of payload from)
from_any (suc n) payload from = stepped n payload from (next_of payload from) refl (from_any n payload)

pub same_listing : JsonListsTheReport
same_listing payload = from_any 256 payload 0
