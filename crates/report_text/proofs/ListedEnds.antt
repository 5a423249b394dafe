-- How the listing of a payload's records ends, found record by record.
use Rattle.std.proofs.Common.{◌≡◌, ℕ, zero, suc, ◌-◌, ◌<◌, ◌≤◌, ◌==◌, length, List, [], ◌∷◌, Bool, true, false, Option, Some, Result, Ok}
use Rattle.std.proofs.Common.{sym, ap, ◌∙◌, refl, arith}
use Rattle.std.proofs.lemmas.Bool.Decides.{nat_tests}
use Rattle.dif_vif.specs.declared.fault.RecordFault.{RecordFault}
use Rattle.dif_vif.specs.declared.span.RecordSpan.{RecordSpan}
use Rattle.dif_vif.specs.Listing.{next_spans, spans_from}
use Rattle.dif_vif.specs.Reading.{next_of}
use Rattle.report_text.specs.Readings.{place_behind, fault_behind, more_behind}

-- one record more
pub spans_next : (n : ℕ) (payload : List ℕ) (from : ℕ) (span : RecordSpan) → next_of payload from ≡ Ok (Some span)
    → spans_from (suc n) payload from ≡ span ∷ spans_from n payload span.end
unfolding spans_from
spans_next n payload from span is = ap (next_spans (spans_from n payload)) is

pub spans_more : (left : ℕ) (payload : List ℕ) (from : ℕ) (span : RecordSpan) → 0 < left → next_of payload from ≡ Ok (Some span)
    → spans_from left payload from ≡ span ∷ spans_from (left - 1) payload span.end
spans_more zero payload from span some is = absurd (omega arith)
spans_more (suc n) payload from span some is =
    let one : n ≡ suc n - 1 = omega arith in
    spans_next n payload from span is ∙ ap (λ m. span ∷ spans_from m payload span.end) one

-- no more are listed
pub spans_full : (left : ℕ) (payload : List ℕ) (from : ℕ) → left ≡ 0 → spans_from left payload from ≡ []
unfolding spans_from
spans_full zero payload from none = refl
spans_full (suc n) payload from none = absurd (omega arith)

-- what is made of whether so many records are listed from a place on, and of what comes behind them
abbrev pub end_from : {X : Type 0} → (Bool → Result (Option RecordSpan) RecordFault → X) → ℕ → List ℕ → ℕ → X
end_from f n payload from =
    let spans = spans_from n payload from in
    f (length spans == n) (next_of payload (place_behind from spans))

pub none_is_few : (n : ℕ) → 0 < n → (0 == n) ≡ false
none_is_few n some = grind (arith, nat_tests)

pub none_is_all : (n : ℕ) → n ≡ 0 → (0 == n) ≡ true
none_is_all n none = grind (arith, nat_tests)

module _ {X : Type 0} (f : Bool → Result (Option RecordSpan) RecordFault → X) where
  -- behind a record that is listed, the end is the same
  pub end_next : (n : ℕ) (payload : List ℕ) (from : ℕ) (span : RecordSpan) → next_of payload from ≡ Ok (Some span)
      → end_from f (suc n) payload from ≡ end_from f n payload span.end
  end_next n payload from span is =
      let rest = spans_from n payload span.end in
      let one_less : (suc (length rest) == suc n) ≡ (length rest == n) = grind (arith, nat_tests) in
      ap (λ found. f (length found == suc n) (next_of payload (place_behind from found))) (spans_next n payload from span is)
      ∙ ap (λ full. f full (next_of payload (place_behind span.end rest))) one_less

  pub end_behind : (left : ℕ) (payload : List ℕ) (from : ℕ) (span : RecordSpan) → 0 < left → next_of payload from ≡ Ok (Some span)
      → end_from f left payload from ≡ end_from f (left - 1) payload span.end
  end_behind zero payload from span some is = absurd (omega arith)
  end_behind (suc n) payload from span some is =
      let one : n ≡ suc n - 1 = omega arith in
      end_next n payload from span is ∙ ap (λ m. end_from f m payload span.end) one

  -- no record is left, or as many are listed as may be
  pub end_here : (n : ℕ) (payload : List ℕ) (from : ℕ) (full : Bool) (next : Result (Option RecordSpan) RecordFault)
      → spans_from n payload from ≡ [] → (0 == n) ≡ full → next_of payload from ≡ next → end_from f n payload from ≡ f full next
  end_here n payload from full next none is found =
      ap (λ spans. f (length spans == n) (next_of payload (place_behind from spans))) none ∙ (λ i. f (is i) (found i))

-- So many records at most are left, from this place on.
pub record IsOnTheWay (payload : List ℕ) (from left : ℕ) : Type 0 where
  pub within : from ≤ length payload
  pub fault : end_from fault_behind 256 payload 0 ≡ end_from fault_behind left payload from
  pub more : end_from more_behind 256 payload 0 ≡ end_from more_behind left payload from

pub at_first : (payload : List ℕ) → IsOnTheWay payload 0 256
at_first payload = record { within = omega arith; fault = refl; more = refl }

-- a record is passed
pub one_passed : (payload : List ℕ) (from left : ℕ) (span : RecordSpan) → IsOnTheWay payload from left → 0 < left
    → next_of payload from ≡ Ok (Some span) → span.end ≤ length payload → IsOnTheWay payload span.end (left - 1)
one_passed payload from left span h some is within = record {
  within = within;
  fault = h.fault ∙ end_behind fault_behind left payload from span some is;
  more = h.more ∙ end_behind more_behind left payload from span some is;
}

-- How the listing of a payload ends: by this fault, if any, and whether more follows.
pub record IsEnd (payload : List ℕ) (fault : Option RecordFault) (more : Bool) : Type 0 where
  pub fault_is : fault ≡ end_from fault_behind 256 payload 0
  pub more_is : more ≡ end_from more_behind 256 payload 0

-- no record is left, or as many are listed as may be
pub is_end : (payload : List ℕ) (from left : ℕ) (full : Bool) (next : Result (Option RecordSpan) RecordFault)
    → IsOnTheWay payload from left → spans_from left payload from ≡ [] → (0 == left) ≡ full → next_of payload from ≡ next
    → IsEnd payload (fault_behind full next) (more_behind full next)
is_end payload from left full next h none is found = record {
  fault_is = sym (h.fault ∙ end_here fault_behind left payload from full next none is found);
  more_is = sym (h.more ∙ end_here more_behind left payload from full next none is found);
}
