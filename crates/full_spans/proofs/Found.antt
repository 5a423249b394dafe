-- What is answered comes next, what comes next is answered, and each fault has its cause.
use Rattle.std.proofs.Common.{⊎_elim, ◌≡◌, ℕ, zero, suc, ◌+◌, ◌-◌, ◌*◌, ◌/◌, ◌%◌, ◌<◌, ◌≤◌, true, false, eqb, ltb, List, [], ◌∷◌, ◌++◌, length, take, drop, get_or, Option, Some, None, Result, Ok, Err, ◌⊎◌, refl, sym, ap, subst, ◌∙◌, inl, inr, append_assoc, arith, length-append, length-drop, take-append-drop, IfOk, IfSome, option_to_list}
use Rattle.std.proofs.lemmas.Bool.{lt-ltb, le-ltb, ne_eqb, eq-eqb, cases_lt, cond-true, cond-false}
use Rattle.std.proofs.lemmas.List.{drop_all, length-take-le}
use Rattle.std.proofs.Math.Seq.{take-append_seam}
use Rattle.std.proofs.lemmas.Option.{same_Some, none-some, slice_get-get_or, get_or_from_slice_get}
use Rattle.dif_vif.specs.declared.fault.RecordFault.{RecordFault}
use Rattle.dif_vif.specs.declared.fault.RecordFault.TheVariants.{Truncated, TooManyExtensions, Lvar, Selection, Special}
use Rattle.dif_vif.specs.declared.span.RecordSpan.{RecordSpan}
use Rattle.dif_vif.specs.Numbers.{storage_of}
use Rattle.dif_vif.specs.Spelling.{IsChain, Dib, Vib, DataRecord, dib_spelling, vib_spelling, contents_spelling, spelling, lvar_width}
use Rattle.dif_vif.specs.Spans.{span_of, AreFillers, IsSpanOf, IsNext, LiesWithin}
use Rattle.dif_vif.specs.Stops.{IsDib, IsVib, HasUnusedLvar, EndsBy}
use Rattle.dif_vif.specs.Reading.{next_of}
use Rattle.dif_vif.proofs.Spans.{rest_at, next_only, next_found, other_byte, first_vife_within, LiesWithin-from_span}
use Rattle.dif_vif.proofs.Endings.{ends_only, ends_found}
use Rattle.dif_vif.proofs.Steps.{ok_is}
use Rattle.full_spans.specs.Long.{long_width, IsLongRecord, IsLongSpan, IsFullSpan, IsFullNext, IsCutLong, announces_long, CutsLong, EndsFullyBy}
use Rattle.full_spans.specs.Walk.{behind_fillers, bare, long_span, stretched, long_at, long_or_fault, with_long, next_full_of}
use Rattle.full_spans.proofs.Blocks.{bare_record, bare_whole}

-- ---- fillers

pub behind-end : (place : ℕ) (bytes : List ℕ) → length bytes ≤ place → behind_fillers place (drop place bytes) ≡ place
unfolding behind_fillers
behind-end place bytes le = rw (drop_all place bytes le) refl

pub behind-filler : (place : ℕ) (bytes : List ℕ) → place < length bytes → get_or bytes place 0 ≡ 0x2f
    → behind_fillers place (drop place bytes) ≡ behind_fillers (place + 1) (drop (place + 1) bytes)
unfolding behind_fillers
behind-filler place bytes lt filler = rw (rest_at bytes place lt, eq-eqb (get_or bytes place 0) 0x2f filler) refl

pub behind-other : (place : ℕ) (bytes : List ℕ) → place < length bytes → (get_or bytes place 0 ≡ 0x2f → ⊥)
    → behind_fillers place (drop place bytes) ≡ place
unfolding behind_fillers
behind-other place bytes lt other = rw (rest_at bytes place lt, ne_eqb (get_or bytes place 0) 0x2f other) refl

skip_in : (count : ℕ) (bytes : List ℕ) (from to : ℕ) → from + count ≡ to → AreFillers bytes from to
    → behind_fillers from (drop from bytes) ≡ behind_fillers to (drop to bytes)
skip_in zero bytes from to e f =
    let here : from ≡ to = omega arith in ap (λ (p : ℕ). behind_fillers p (drop p bytes)) here
skip_in (suc count) bytes from to e f =
    let lt : from < length bytes = omega (arith, f.within) in
    behind-filler from bytes lt (get_or_from_slice_get bytes from 0x2f 0 (f.fillers from (omega arith) (omega arith)))
    ∙ skip_in count bytes (from + 1) to (omega arith) (record {
      ordered = omega arith;
      within = f.within;
      fillers = λ place low high. f.fillers place (omega arith) high;
    })

skip : (bytes : List ℕ) (from to : ℕ) → AreFillers bytes from to → behind_fillers from (drop from bytes) ≡ behind_fillers to (drop to bytes)
skip bytes from to f = skip_in (to - from) bytes from to (omega (arith, f.ordered)) f

pub behind_is : (bytes : List ℕ) (from to : ℕ) → AreFillers bytes from to → to < length bytes → (get_or bytes to 0 ≡ 0x2f → ⊥)
    → behind_fillers from (drop from bytes) ≡ to
behind_is bytes from to f lt other = skip bytes from to f ∙ behind-other to bytes lt other

-- ---- an LVAR that announces a long number is none of the profile's

pub long_from : (lvar width : ℕ) → long_width lvar ≡ Some width → 240 ≤ lvar
long_from lvar width wide =
    ⊎_elim (λ lt. absurd (none-some width (sym (cond-true (ltb lvar 240) _ _ (lt-ltb lvar 240 lt)) ∙ wide))) (λ le. le) (cases_lt lvar 240)

pub unused : (lvar : ℕ) → 240 ≤ lvar → lvar_width lvar ≡ None
unused lvar le =
    cond-false (ltb lvar 192) _ _ (le-ltb lvar 192 (omega arith)) ∙ cond-false (ltb lvar 202) _ _ (le-ltb lvar 202 (omega arith))
    ∙ cond-false (ltb lvar 208) _ _ (le-ltb lvar 208 (omega arith)) ∙ cond-false (ltb lvar 218) _ _ (le-ltb lvar 218 (omega arith))
    ∙ cond-false (ltb lvar 224) _ _ (le-ltb lvar 224 (omega arith)) ∙ cond-false (ltb lvar 240) _ _ (le-ltb lvar 240 le)

-- ---- a record with such an LVAR

abbrev long_record : Dib → Vib → ℕ → List ℕ → DataRecord
long_record b v lvar sent = record { dib = b; vib = v; contents = record { lvar = Some lvar; sent = sent } }

-- its span is that of its blocks, with the data behind it
spans_agree : (b : Dib) (v : Vib) (start lvar width : ℕ) (sent : List ℕ) → length sent ≡ width
    → long_span start b.dif lvar width (span_of 0 (bare_record b v)) ≡ span_of start (long_record b v lvar sent)
spans_agree b v start lvar width sent is =
    let function : b.dif / 16 * 16 / 16 % 4 ≡ b.dif / 16 % 4 = omega arith in
    let storage : storage_of (b.dif / 16 * 16) b.difes ≡ storage_of b.dif b.difes = same_storage b.dif b.difes in
    let t = length v.text in
    let d = length b.difes in
    let n = length v.vifes in
    let text_at : start + (0 + 1 + d + 1 + t - (t - 1)) ≡ start + 1 + d + 1 + t - (t - 1) = omega arith in
    let vifes_at : start + (0 + 1 + d + 1 + t) ≡ start + 1 + d + 1 + t = omega arith in
    let data_at : start + (0 + 1 + d + 1 + t + n + 0 + 0 + 1) ≡ start + 1 + d + 1 + t + n + 1 = omega arith in
    let end : start + (0 + 1 + d + 1 + t + n + 0 + 0 + 1 + width) ≡ start + 1 + d + 1 + t + n + 1 + length sent = omega (arith, is) in
    rw (function, storage, text_at, vifes_at, data_at, end, is) refl
  where
    same_storage : (dif : ℕ) (difes : List ℕ) → storage_of (dif / 16 * 16) difes ≡ storage_of dif difes
    same_storage dif difes = let bit : dif / 16 * 16 / 64 % 2 ≡ dif / 64 % 2 = omega arith in rw bit refl

module _ (bytes : List ℕ) (from place lvar width : ℕ) (b : Dib) (v : Vib) (rest : List ℕ) (fillers : AreFillers bytes from place)
    (is_b : IsDib b) (is_v : IsVib v) (by_lvar : b.dif % 16 ≡ 13) (wide : long_width lvar ≡ Some width)
    (spelled : drop place bytes ≡ dib_spelling b ++ (vib_spelling v ++ lvar ∷ rest)) where
  begins : place < length bytes
  begins = ⊎_elim (λ lt. lt) (λ le. absurd (let none = drop_all place bytes le in cc)) (cases_lt place (length bytes))

  first : get_or bytes place 0 ≡ b.dif
  first = let there = rest_at bytes place begins in cc

  no_filler : get_or bytes place 0 ≡ 0x2f → ⊥
  no_filler filler = omega (arith, first, filler, by_lvar)

  ends : EndsBy bytes from (Lvar lvar)
  ends =
      record {
        place = place;
        fillers = fillers;
        within = begins;
        not_filler = λ there. no_filler (get_or_from_slice_get bytes place 0x2f 0 there);
        not_maker = λ there. omega (arith, first, get_or_from_slice_get bytes place 0x0f 0 there, by_lvar);
        nor_more = λ there. omega (arith, first, get_or_from_slice_get bytes place 0x1f 0 there, by_lvar);
        stops = record {
          dib = b;
          vib = v;
          rest = rest;
          is_dib = is_b;
          is_vib = is_v;
          by_lvar = by_lvar;
          unused = unused lvar (long_from lvar width wide);
          spelled = spelled;
        };
      }

  abbrev left : ℕ
  left = length (dib_spelling b ++ (vib_spelling v ++ lvar ∷ rest))

  answered : next_full_of bytes from ≡ stretched place left b.dif lvar width (Ok (Some (span_of 0 (bare_record b v))))
  unfolding long_at
  answered =
      ap (with_long bytes from) (ends_only bytes from (Lvar lvar) ends)
      ∙ ap (λ (p : ℕ). long_or_fault bytes p lvar (long_width lvar)) (behind_is bytes from place fillers begins no_filler)
      ∙ ap (long_or_fault bytes place lvar) wide
      ∙ ap (long_at place lvar width) spelled
      ∙ ap (stretched place left b.dif lvar width) (bare_whole b v (lvar ∷ rest) is_b is_v)

  left_is : left ≡ (span_of 0 (bare_record b v)).end + 1 + length rest
  left_is =
      omega (
        arith,
        length-append b.difes (vib_spelling v ++ lvar ∷ rest),
        length-append (vib_spelling v) (lvar ∷ rest),
        length-append v.text v.vifes,
      )

  -- whole data
  whole : width ≤ length rest
      → next_full_of bytes from ≡ Ok (Some (span_of place (long_record b v lvar (take width rest))))
  whole le =
      let enough = le-ltb left ((span_of 0 (bare_record b v)).end + 1 + width) (omega (arith, left_is, le)) in
      answered ∙ cond-false _ _ _ enough
      ∙ ap (λ (s : RecordSpan). Ok (Some s)) (spans_agree b v place lvar width (take width rest) (length-take-le width rest le))

  -- data that are cut short
  cut : length rest < width → next_full_of bytes from ≡ Err (Truncated place)
  cut lt =
      answered
      ∙ cond-true _ _ _ (lt-ltb left ((span_of 0 (bare_record b v)).end + 1 + width) (omega (arith, left_is, lt)))

  regrouped : drop place bytes ≡ spelling (long_record b v lvar (take width rest)) ++ drop width rest
  regrouped =
      spelled
      ∙ ap (λ (r : List ℕ). dib_spelling b ++ (vib_spelling v ++ lvar ∷ r)) (sym (take-append-drop width rest))
      ∙ ap (λ (r : List ℕ). dib_spelling b ++ r) (sym (append_assoc (vib_spelling v) (lvar ∷ take width rest) (drop width rest)))
      ∙ sym (append_assoc (dib_spelling b) (vib_spelling v ++ lvar ∷ take width rest) (drop width rest))

  stands : width ≤ length rest → IsFullNext bytes from (Some (span_of place (long_record b v lvar (take width rest))))
  stands le = (
    fillers,
    inr (record {
      found = long_record b v lvar (take width rest);
      lvar = lvar;
      is_record = record {
        dib = is_b;
        vib = is_v;
        by_lvar = by_lvar;
        lvar_is = refl;
        sent = wide ∙ ap (λ (n : ℕ). Some n) (sym (length-take-le width rest le));
      };
      rest = drop width rest;
      spelled = regrouped;
      places = refl;
    }),
  )

-- ---- what next_full_of answers

none_long : (bytes : List ℕ) (place lvar : ℕ) → long_width lvar ≡ None → long_or_fault bytes place lvar (long_width lvar) ≡ Err (Lvar lvar)
none_long bytes place lvar none = ap (long_or_fault bytes place lvar) none

long_found : (bytes : List ℕ) (from lvar : ℕ) (next : Option RecordSpan) (w : Option ℕ) → long_width lvar ≡ w → EndsBy bytes from (Lvar lvar)
    → next_of bytes from ≡ Err (Lvar lvar) → next_full_of bytes from ≡ Ok next → IsFullNext bytes from next
long_found bytes from lvar next None none n e is =
    absurd (let fault : next_full_of bytes from ≡ Err (Lvar lvar) = ap (with_long bytes from) e ∙ none_long bytes _ lvar none in
    let both : Err (Lvar lvar) ≡ Ok next = sym fault ∙ is in
    cc)
long_found bytes from lvar next (Some width) wide n e is =
    let h = n.stops in
    ⊎_elim
    (λ lt. absurd (let fault = cut bytes from n.place lvar width h.dib h.vib h.rest n.fillers h.is_dib h.is_vib h.by_lvar wide h.spelled lt in
    let both : Err (Truncated n.place) ≡ Ok next = sym fault ∙ is in
    cc))
    (λ le. subst (IsFullNext bytes from)
    (ok_is _ next (sym (whole bytes from n.place lvar width h.dib h.vib h.rest n.fillers h.is_dib h.is_vib h.by_lvar wide h.spelled le) ∙ is))
    (stands bytes from n.place lvar width h.dib h.vib h.rest n.fillers h.is_dib h.is_vib h.by_lvar wide h.spelled le))
    (cases_lt (length h.rest) width)

-- what comes next without long records does so with them
widened : (bytes : List ℕ) (from : ℕ) (next : Option RecordSpan) → IsNext bytes from next → IsFullNext bytes from next
widened bytes from None n = n
widened bytes from (Some span) n = (n.0, inl n.1)

found_by : (bytes : List ℕ) (from : ℕ) (next : Option RecordSpan) (r : Result (Option RecordSpan) RecordFault) → from ≤ length bytes
    → next_of bytes from ≡ r → with_long bytes from r ≡ Ok next → IsFullNext bytes from next
found_by bytes from next (Ok x) le e is =
    subst (IsFullNext bytes from) (ok_is x next is) (widened bytes from x (next_found bytes from x le e))
found_by bytes from next (Err (Lvar lvar)) le e is =
    long_found bytes from lvar next (long_width lvar) refl (ends_found bytes from (Lvar lvar) le e) e (ap (with_long bytes from) e ∙ is)
found_by bytes from next (Err (Truncated place)) le e is = absurd cc
found_by bytes from next (Err (TooManyExtensions place)) le e is = absurd cc
found_by bytes from next (Err (Selection place)) le e is = absurd cc
found_by bytes from next (Err (Special dif)) le e is = absurd cc

pub full_found : (bytes : List ℕ) (from : ℕ) (next : Option RecordSpan) → from ≤ length bytes → next_full_of bytes from ≡ Ok next
    → IsFullNext bytes from next
full_found bytes from next le is = found_by bytes from next (next_of bytes from) le refl is

-- a long record is read where it stands
long_only : (bytes : List ℕ) (from : ℕ) (span : RecordSpan) → AreFillers bytes from span.start → IsLongSpan bytes span
    → next_full_of bytes from ≡ Ok (Some span)
long_only bytes from span fillers s =
    let r = s.found in
    let sent = r.contents.sent in
    let same : record { dib = r.dib; vib = r.vib; contents = record { lvar = Some s.lvar; sent = sent } } ≡ r =
    ap (λ (o : Option ℕ). record { dib = r.dib; vib = r.vib; contents = record { lvar = o; sent = sent } }) (sym s.is_record.lvar_is) in
    let spelled : drop span.start bytes ≡ dib_spelling r.dib ++ (vib_spelling r.vib ++ s.lvar ∷ (sent ++ s.rest)) =
    s.spelled ∙ ap (λ (x : DataRecord). spelling x ++ s.rest) (sym same)
    ∙ append_assoc (dib_spelling r.dib) (vib_spelling r.vib ++ s.lvar ∷ sent) s.rest
    ∙ ap (λ (x : List ℕ). dib_spelling r.dib ++ x) (append_assoc (vib_spelling r.vib) (s.lvar ∷ sent) s.rest) in
    let front : take (length sent) (sent ++ s.rest) ≡ sent = take-append_seam sent s.rest in
    whole bytes from span.start s.lvar (length sent) r.dib r.vib (sent ++ s.rest) fillers s.is_record.dib s.is_record.vib s.is_record.by_lvar
    s.is_record.sent spelled (omega (arith, length-append sent s.rest))
    ∙ ap (λ (x : List ℕ). Ok (Some (span_of span.start (long_record r.dib r.vib s.lvar x)))) front
    ∙ ap (λ (x : DataRecord). Ok (Some (span_of span.start x))) same
    ∙ ap (λ (x : RecordSpan). Ok (Some x)) (sym s.places)

pub full_only : (bytes : List ℕ) (from : ℕ) (next : Option RecordSpan) → from ≤ length bytes → IsFullNext bytes from next
    → next_full_of bytes from ≡ Ok next
full_only bytes from None le n = ap (with_long bytes from) (next_only bytes from None le n)
full_only bytes from (Some span) le (fillers, inl s) = ap (with_long bytes from) (next_only bytes from (Some span) le (fillers, s))
full_only bytes from (Some span) le (fillers, inr s) = long_only bytes from span fillers s

-- ---- faults

abbrev failed : RecordFault → Result (Option RecordSpan) RecordFault
failed fault = Err fault

err_is : (x y : RecordFault) → failed x ≡ failed y → x ≡ y
err_is x y e = cc

long_cause : (bytes : List ℕ) (from lvar : ℕ) (fault : RecordFault) (w : Option ℕ) → long_width lvar ≡ w → EndsBy bytes from (Lvar lvar)
    → next_of bytes from ≡ Err (Lvar lvar) → next_full_of bytes from ≡ Err fault → EndsFullyBy bytes from fault
long_cause bytes from lvar fault None none n e is =
    subst (EndsFullyBy bytes from)
    (err_is (Lvar lvar) fault (sym (ap (with_long bytes from) e ∙ none_long bytes _ lvar none) ∙ is)) (inl (n, none))
long_cause bytes from lvar fault (Some width) wide n e is =
    let h = n.stops in
    ⊎_elim
    (λ lt. subst (EndsFullyBy bytes from)
    (err_is (Truncated n.place) fault
    (sym (cut bytes from n.place lvar width h.dib h.vib h.rest n.fillers h.is_dib h.is_vib h.by_lvar wide h.spelled lt) ∙ is))
    (inr (record {
      fillers = n.fillers;
      within = n.within;
      dib = h.dib;
      vib = h.vib;
      lvar = lvar;
      width = width;
      sent = h.rest;
      is_dib = h.is_dib;
      is_vib = h.is_vib;
      by_lvar = h.by_lvar;
      wide = wide;
      short = lt;
      spelled = h.spelled;
    })))
    (λ le. absurd (let some = whole bytes from n.place lvar width h.dib h.vib h.rest n.fillers h.is_dib h.is_vib h.by_lvar wide h.spelled le in
    let both : Ok _ ≡ Err fault = sym some ∙ is in
    cc))
    (cases_lt (length h.rest) width)

cause_by : (bytes : List ℕ) (from : ℕ) (fault : RecordFault) (r : Result (Option RecordSpan) RecordFault) → from ≤ length bytes
    → next_of bytes from ≡ r → with_long bytes from r ≡ Err fault → EndsFullyBy bytes from fault
cause_by bytes from fault (Ok x) le e is = absurd cc
cause_by bytes from fault (Err (Lvar lvar)) le e is =
    long_cause bytes from lvar fault (long_width lvar) refl (ends_found bytes from (Lvar lvar) le e) e (ap (with_long bytes from) e ∙ is)
cause_by bytes from fault (Err (Truncated place)) le e is =
    subst (EndsFullyBy bytes from) (err_is (Truncated place) fault is) (inl (ends_found bytes from (Truncated place) le e, refl))
cause_by bytes from fault (Err (TooManyExtensions place)) le e is =
    subst (EndsFullyBy bytes from) (err_is (TooManyExtensions place) fault is) (inl (ends_found bytes from (TooManyExtensions place) le e, refl))
cause_by bytes from fault (Err (Selection place)) le e is =
    subst (EndsFullyBy bytes from) (err_is (Selection place) fault is) (inl (ends_found bytes from (Selection place) le e, refl))
cause_by bytes from fault (Err (Special dif)) le e is =
    subst (EndsFullyBy bytes from) (err_is (Special dif) fault is) (inl (ends_found bytes from (Special dif) le e, refl))

-- a fault that announces no long number stays
stays : (bytes : List ℕ) (from : ℕ) (fault : RecordFault) → announces_long fault ≡ None → with_long bytes from (Err fault) ≡ Err fault
stays bytes from (Lvar lvar) none = none_long bytes _ lvar none
stays bytes from (Truncated place) none = refl
stays bytes from (TooManyExtensions place) none = refl
stays bytes from (Selection place) none = refl
stays bytes from (Special dif) none = refl

cut_only : (bytes : List ℕ) (from : ℕ) (fault : RecordFault) → CutsLong bytes from fault → next_full_of bytes from ≡ Err fault
cut_only bytes from (Truncated place) c =
    cut bytes from place c.lvar c.width c.dib c.vib c.sent c.fillers c.is_dib c.is_vib c.by_lvar c.wide c.spelled c.short
cut_only bytes from (Lvar lvar) c = absurd c
cut_only bytes from (TooManyExtensions place) c = absurd c
cut_only bytes from (Selection place) c = absurd c
cut_only bytes from (Special dif) c = absurd c

pub ends_fully : (bytes : List ℕ) (from : ℕ) (fault : RecordFault) → EndsFullyBy bytes from fault → next_full_of bytes from ≡ Err fault
ends_fully bytes from fault (inl n) = ap (with_long bytes from) (ends_only bytes from fault n.0) ∙ stays bytes from fault n.1
ends_fully bytes from fault (inr c) = cut_only bytes from fault c

-- ---- the places of a span

long_within : (bytes : List ℕ) (start : ℕ) (r : DataRecord) (rest : List ℕ) → drop start bytes ≡ spelling r ++ rest
    → LiesWithin bytes (span_of start r)
long_within bytes start r rest spelled =
    let lt : start < length bytes =
    ⊎_elim (λ lt. lt) (λ le. absurd (let none = drop_all start bytes le in cc)) (cases_lt start (length bytes)) in
    let len = ap length spelled in
    let dropped = length-drop start bytes in
    let all = length-append (spelling r) rest in
    let tail = length-append r.dib.difes (vib_spelling r.vib ++ contents_spelling r.contents) in
    let unit = length-append r.vib.text r.vib.vifes in
    let middle = length-append (vib_spelling r.vib) (contents_spelling r.contents) in
    let data_part = length-append (option_to_list r.contents.lvar) r.contents.sent in
    record { begins = omega arith; text = omega arith; vifes = omega arith; ends = refl; within = omega arith }

-- a span of these bytes lies within them
pub LiesWithin-from_full : (bytes : List ℕ) (span : RecordSpan) → IsFullSpan bytes span → LiesWithin bytes span
LiesWithin-from_full bytes span (inl s) = LiesWithin-from_span bytes span s
LiesWithin-from_full bytes span (inr s) =
    subst (λ (x : RecordSpan). LiesWithin bytes x) (sym s.places) (long_within bytes span.start s.found s.rest s.spelled)

-- ---- the clauses of next_full_record

pub if_full : (bytes : List ℕ) (from : ℕ) (r : Result (Option RecordSpan) RecordFault) → from ≤ length bytes
    → r ≡ next_full_of bytes from → IfOk r (λ next. IsFullNext bytes from next)
if_full bytes from (Ok next) le e = full_found bytes from next le (sym e)
if_full bytes from (Err fault) le e = tt

within_is : (bytes : List ℕ) (from : ℕ) (next : Option RecordSpan) → IsFullNext bytes from next → IfSome next (LiesWithin bytes)
within_is bytes from None n = tt
within_is bytes from (Some span) n = LiesWithin-from_full bytes span n.1

pub if_within : (bytes : List ℕ) (from : ℕ) (r : Result (Option RecordSpan) RecordFault) → from ≤ length bytes
    → r ≡ next_full_of bytes from → IfOk r (λ next. IfSome next (LiesWithin bytes))
if_within bytes from (Ok next) le e = within_is bytes from next (full_found bytes from next le (sym e))
if_within bytes from (Err fault) le e = tt

pub cause_is : (bytes : List ℕ) (from : ℕ) (r : Result (Option RecordSpan) RecordFault) (fault : RecordFault) → from ≤ length bytes
    → r ≡ next_full_of bytes from → (r ≡ Err fault → EndsFullyBy bytes from fault) × (EndsFullyBy bytes from fault → r ≡ Err fault)
cause_is bytes from r fault le e =
    (λ is. cause_by bytes from fault (next_of bytes from) le refl (sym e ∙ is), λ n. e ∙ ends_fully bytes from fault n)

-- ---- the calls below

-- where the LVAR stands for a long number, its record is looked at
pub goes_long : (bytes : List ℕ) (from start lvar width : ℕ) (whole : List ℕ) (r : Result (Option RecordSpan) RecordFault)
    → long_width lvar ≡ Some width → start ≡ behind_fillers from (drop from bytes) → whole ≡ drop start bytes
    → r ≡ long_at start lvar width whole → r ≡ long_or_fault bytes (behind_fillers from (drop from bytes)) lvar (long_width lvar)
goes_long bytes from start lvar width whole r wide there is e =
    e ∙ ap (long_at start lvar width) is ∙ ap (λ (p : ℕ). long_at p lvar width (drop p bytes)) there
    ∙ ap (long_or_fault bytes (behind_fillers from (drop from bytes)) lvar) (sym wide)

pub long_at-empty : (start lvar width : ℕ) (whole : List ℕ) → length whole < 1 → Err (Lvar lvar) ≡ long_at start lvar width whole
unfolding long_at
long_at-empty start lvar width [] few = refl
long_at-empty start lvar width (dif ∷ rest) few = absurd (omega arith)

pub long_at-some : (start lvar width dif : ℕ) (whole rest : List ℕ) (next : Result (Option RecordSpan) RecordFault) → whole ≡ dif ∷ rest
    → next ≡ next_of (bare dif rest) 0 → stretched start (length whole) dif lvar width next ≡ long_at start lvar width whole
unfolding long_at
long_at-some start lvar width dif whole rest next is e = rw (is, e) refl

-- the LVAR that isn't read stands behind the fillers
pub unused_there : (bytes : List ℕ) (from start lvar : ℕ) → EndsBy bytes from (Lvar lvar) → start ≡ behind_fillers from (drop from bytes)
    → HasUnusedLvar (drop start bytes) lvar
unused_there bytes from start lvar n there =
    let here : n.place ≡ start =
    sym (behind_is bytes from n.place n.fillers n.within (other_byte bytes n.place 0x2f n.within n.not_filler)) ∙ sym there in
    subst (λ (p : ℕ). HasUnusedLvar (drop p bytes) lvar) here n.stops

-- ---- what a reader of a span needs

-- a long span has an LVAR of a long number, and is no span of manufacturer data
pub long_lvar : (bytes : List ℕ) (span : RecordSpan) (s : IsLongSpan bytes span) → span.lvar ≡ Some s.lvar
long_lvar bytes span s = ap (λ (x : RecordSpan). x.lvar) s.places ∙ s.is_record.lvar_is

pub long_not_maker : (bytes : List ℕ) (span : RecordSpan) → IsLongSpan bytes span → span.maker ≡ false
long_not_maker bytes span s = ap (λ (x : RecordSpan). x.maker) s.places

pub long_lvar_from : (bytes : List ℕ) (span : RecordSpan) (s : IsLongSpan bytes span) → 240 ≤ s.lvar
long_lvar_from bytes span s = long_from s.lvar _ s.is_record.sent

chain_not_empty : (byte : ℕ) (part : List ℕ) → IsChain byte part → 128 ≤ byte → 0 < length part
chain_not_empty byte [] chain le = absurd (omega (arith, chain))
chain_not_empty byte (next ∷ others) chain le = omega arith

-- behind a VIF with its top bit stands a VIFE
pub first_vife-from_full : (bytes : List ℕ) (span : RecordSpan) → IsFullSpan bytes span → span.maker ≡ false → 128 ≤ span.vif
    → (0 < span.vifes) × (span.vifes_at < length bytes)
first_vife-from_full bytes span (inl s) not_maker le = first_vife_within bytes span s not_maker le
first_vife-from_full bytes span (inr s) not_maker le =
    let top : 128 ≤ s.found.vib.vif = subst (λ (x : RecordSpan). 128 ≤ x.vif) s.places le in
    let some : 0 < length s.found.vib.vifes = chain_not_empty s.found.vib.vif s.found.vib.vifes s.is_record.vib.vifes top in
    let some_vifes : 0 < span.vifes = subst (λ (x : RecordSpan). 0 < x.vifes) (sym s.places) some in
    let places = LiesWithin-from_full bytes span (inr s) in
    (some_vifes, omega (arith, places.vifes, places.ends, places.within))
