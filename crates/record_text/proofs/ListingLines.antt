-- The lines of a listing.
use Rattle.std.proofs.Common.{◌≡◌, ℕ, zero, suc, true, false, List, [], ◌∷◌, ◌++◌, length, take, Option, Some, None, sym, ap, ◌∙◌, append_assoc, arith, codes, nat_lt, if◌then◌else◌, flat_map}
use Rattle.std.proofs.lemmas.Bool.Decides.{nat_tests}
use Rattle.dif_vif.specs.declared.fault.RecordFault.{RecordFault}
use Rattle.dif_vif.specs.declared.span.RecordSpan.{RecordSpan}
use Rattle.dif_vif.specs.Listing.{IsListing}
use Rattle.dif_vif.proofs.Listings.{ending_is, next_is}
use Rattle.record_text.specs.Lines.{span_line, fault_line}
use Rattle.record_text.specs.RecordText.{more_text, next_text, listed, closing}

below_suc : (n m : ℕ) → nat_lt (suc n) (suc m) ≡ nat_lt n m
below_suc n m = grind (arith, nat_tests)

none_below : (n : ℕ) → nat_lt n 0 ≡ false
none_below n = grind (arith, nat_tests)

some_above : (n : ℕ) → nat_lt 0 (suc n) ≡ true
some_above n = grind (arith, nat_tests)

-- one record more, and one line more
closing_suc : (n count : ℕ) (ending : Option RecordFault) → closing (suc n) (suc count) ending ≡ closing n count ending
closing_suc n count None = ap (λ test. if test then codes "more\n" else []) (below_suc n count)
closing_suc n count (Some fault) = ap (λ test. if test then fault_line fault else codes "more\n") (below_suc count n)

at_end : (n : ℕ) (payload : List ℕ) (from : ℕ) (ending : Option RecordFault) → IsListing payload from [] ending
    → listed n payload from ≡ closing n 0 ending
unfolding listed
at_end zero payload from None l = ap more_text (ending_is payload from None l)
at_end zero payload from (Some fault) l = ap more_text (ending_is payload from (Some fault) l)
at_end (suc n) payload from None l =
    ap (next_text (listed n payload) payload) (ending_is payload from None l)
    ∙ ap (λ test. if test then codes "more\n" else []) (sym (none_below (suc n)))
at_end (suc n) payload from (Some fault) l =
    ap (next_text (listed n payload) payload) (ending_is payload from (Some fault) l)
    ∙ ap (λ test. if test then fault_line fault else codes "more\n") (sym (some_above n))

more_records : (count : ℕ) (ending : Option RecordFault) → codes "more\n" ≡ closing 0 (suc count) ending
more_records count None = ap (λ test. if test then codes "more\n" else []) (sym (some_above count))
more_records count (Some fault) = ap (λ test. if test then fault_line fault else codes "more\n") (sym (none_below (suc count)))

pub listing_lines : (n : ℕ) (payload : List ℕ) (from : ℕ) (spans : List RecordSpan) (ending : Option RecordFault)
    → IsListing payload from spans ending
    → listed n payload from ≡ flat_map (span_line payload) (take n spans) ++ closing n (length spans) ending
unfolding listed
listing_lines zero payload from [] ending l = at_end zero payload from ending l
listing_lines (suc n) payload from [] ending l = at_end (suc n) payload from ending l
listing_lines zero payload from (span ∷ spans) ending l =
    ap more_text (next_is payload from span l.0) ∙ more_records (length spans) ending
listing_lines (suc n) payload from (span ∷ spans) ending l =
    ap (next_text (listed n payload) payload) (next_is payload from span l.0)
    ∙ ap (λ rest. span_line payload span ++ rest) (listing_lines n payload span.end spans ending l.1)
    ∙ sym (append_assoc (span_line payload span) (flat_map (span_line payload) (take n spans)) (closing n (length spans) ending))
    ∙ ap (λ last. span_line payload span ++ flat_map (span_line payload) (take n spans) ++ last) (sym (closing_suc n (length spans) ending))
