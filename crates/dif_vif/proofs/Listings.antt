-- A payload has one listing, and no record begins another.
use Rattle.std.proofs.Common.{◌≡◌, ℕ, zero, suc, ◌+◌, ◌-◌, ◌<◌, ◌≤◌, List, [], ◌∷◌, ◌++◌, length, drop, Option, Some, None, Result, Ok, Err, refl, sym, ap, subst, ◌∙◌, arith}
use Rattle.std.proofs.lemmas.Option.{same_Some}
use Rattle.dif_vif.specs.declared.fault.RecordFault.{RecordFault}
use Rattle.dif_vif.specs.declared.span.RecordSpan.{RecordSpan}
use Rattle.dif_vif.specs.Spelling.{DataRecord, IsRecord, spelling}
use Rattle.dif_vif.specs.Spans.{IsSpanOf, IsNext}
use Rattle.dif_vif.specs.Stops.{EndsBy}
use Rattle.dif_vif.specs.Reading.{record_at, span_at, next_of}
use Rattle.dif_vif.specs.Listing.{IsEnding, IsListing, Listing, answer_of_ending}
use Rattle.dif_vif.proofs.Steps.{Reads, ok_is}
use Rattle.dif_vif.proofs.Again.{record_again}
use Rattle.dif_vif.proofs.Endings.{ends_only, none_begins}
use Rattle.dif_vif.proofs.Spans.{span_again, next_reads, next_only, LiesWithin-from_span}

-- no record begins another one
pub one_record : (a b : DataRecord) (x y : List ℕ) → IsRecord a → IsRecord b → spelling a ++ x ≡ spelling b ++ y → (a ≡ b) × (x ≡ y)
one_record a b x y is_a is_b e =
    let first = record_again 0 a x is_a in
    let second = record_again 0 b y is_b in
    let same : (a, x) ≡ (b, y) = ok_is (a, x) (b, y) (sym first ∙ ap (record_at 0) e ∙ second) in
    (ap (λ (p : DataRecord × List ℕ). p.0) same, ap (λ (p : DataRecord × List ℕ). p.1) same)

-- one span stands at a place
pub one_span : (bytes : List ℕ) (s t : RecordSpan) → IsSpanOf bytes s → IsSpanOf bytes t → s.start ≡ t.start → s ≡ t
one_span bytes s t is_s is_t e =
    ok_is s t (sym (span_again bytes s is_s) ∙ ap (λ (p : ℕ). span_at (length bytes) p (drop p bytes)) e ∙ span_again bytes t is_t)

-- ---- each payload has a listing

by_answer : (bytes : List ℕ) (from : ℕ) (r : Result (Option RecordSpan) RecordFault) → Reads (IsNext bytes from) (EndsBy bytes from) r
    → ((at : ℕ) → at ≤ length bytes → from < at → Listing bytes at) → Listing bytes from
by_answer bytes from (Ok None) h further = record { spans = []; ending = None; listed = h.is }
by_answer bytes from (Ok (Some span)) h further =
    let places = LiesWithin-from_span bytes span h.is.1 in
    let others = further span.end places.within (omega (arith, places.begins, places.ends, h.is.0.ordered)) in
    record { spans = span ∷ others.spans; ending = others.ending; listed = (h.is, others.listed) }
by_answer bytes from (Err fault) h further =
    record { spans = []; ending = Some fault; listed = (none_begins bytes from fault h.is, h.is) }

listing_in : (left : ℕ) (bytes : List ℕ) (from : ℕ) → from ≤ length bytes → length bytes - from < left → Listing bytes from
listing_in zero bytes from le few = absurd (omega arith)
listing_in (suc left) bytes from le few =
    by_answer bytes from (next_of bytes from) (next_reads bytes from le) (λ at within further. listing_in left bytes at within (omega arith))

pub some_listing : (bytes : List ℕ) → Listing bytes 0
some_listing bytes = listing_in (length bytes + 1) bytes 0 (omega arith) (omega arith)

-- ---- and no other one

pub ending_is : (bytes : List ℕ) (from : ℕ) (ending : Option RecordFault) → IsEnding bytes from ending
    → next_of bytes from ≡ answer_of_ending ending
ending_is bytes from None is = next_only bytes from None is.ordered is
ending_is bytes from (Some fault) is = ends_only bytes from fault is.1

pub next_is : (bytes : List ℕ) (from : ℕ) (span : RecordSpan) → IsNext bytes from (Some span) → next_of bytes from ≡ Ok (Some span)
next_is bytes from span n = next_only bytes from (Some span) (omega (arith, n.0.ordered, n.0.within)) n

same_ending : (e f : Option RecordFault) → answer_of_ending e ≡ answer_of_ending f → e ≡ f
same_ending None None same = refl
same_ending None (Some f) same = absurd cc
same_ending (Some e) None same = absurd cc
same_ending (Some e) (Some f) same = cc

no_more : (ending : Option RecordFault) (span : RecordSpan) → answer_of_ending ending ≡ Ok (Some span) → ⊥
no_more None span same = cc
no_more (Some fault) span same = cc

pub same_listing : (bytes : List ℕ) (from : ℕ) (ss ts : List RecordSpan) (e f : Option RecordFault) → IsListing bytes from ss e
    → IsListing bytes from ts f → (ss ≡ ts) × (e ≡ f)
same_listing bytes from [] [] e f l m = (refl, same_ending e f (sym (ending_is bytes from e l) ∙ ending_is bytes from f m))
same_listing bytes from [] (t ∷ ts) e f l m = absurd (no_more e t (sym (ending_is bytes from e l) ∙ next_is bytes from t m.0))
same_listing bytes from (s ∷ ss) [] e f l m = absurd (no_more f s (sym (ending_is bytes from f m) ∙ next_is bytes from s l.0))
same_listing bytes from (s ∷ ss) (t ∷ ts) e f l m =
    let same : s ≡ t = same_Some s t (ok_is (Some s) (Some t) (sym (next_is bytes from s l.0) ∙ next_is bytes from t m.0)) in
    let rest = same_listing bytes s.end ss ts e f l.1 (subst (λ (x : RecordSpan). IsListing bytes x.end ts f) (sym same) m.1) in
    (rw (same, rest.0) refl, rest.1)
