-- What is answered at a place stands there, what stands there is answered, and a fault shows its cause.
use Rattle.std.proofs.Common.{⊎_elim, ◌≡◌, ℕ, zero, suc, ◌+◌, ◌-◌, ◌%◌, ◌<◌, ◌≤◌, true, false, eqb, List, [], ◌∷◌, ◌++◌, length, get_or, drop, Option, Some, None, Result, Ok, Err, ◌⊎◌, refl, sym, ap, subst, ◌∙◌, inl, inr, arith, IfOk, IfSome, IsErr, slice_get, option_to_list}
use Rattle.std.proofs.lemmas.Bool.{cases_Bool, cases_eq, cases_lt, eqb-true, eq-eqb, ne_eqb, or_cases, or_from, both_ways}
use Rattle.std.proofs.lemmas.List.{drop_more, drop_all, length-drop, length-append}
use Rattle.std.proofs.lemmas.Option.{slice_get-get_or, slice_get_within, get_or_from_slice_get}
use Rattle.dif_vif.specs.declared.fault.RecordFault.{RecordFault}
use Rattle.dif_vif.specs.declared.span.RecordSpan.{RecordSpan}
use Rattle.dif_vif.specs.Spelling.{DataRecord, IsChain, IsRecord, data_width, vib_spelling, contents_spelling, spelling}
use Rattle.dif_vif.specs.Spans.{span_of, maker_span, IsSpanOf, LiesWithin, AreFillers, IsNext, NoneBegins}
use Rattle.lists.specs.Steps.{◌>>=◌}
use Rattle.dif_vif.specs.Reading.{record_at, begins_maker, span_at, next_at, next_of}
use Rattle.dif_vif.specs.Stops.{Stops, EndsBy}
use Rattle.dif_vif.proofs.Steps.{Reads, bind_reads}
use Rattle.dif_vif.proofs.Readings.{record_reads}
use Rattle.dif_vif.proofs.Again.{record_again, not_special}

-- the byte at a place inside, and what is left from there
pub rest_at : (bytes : List ℕ) (start : ℕ) → start < length bytes → drop start bytes ≡ get_or bytes start 0 ∷ drop (start + 1) bytes
rest_at bytes start lt = drop_more bytes start 0 lt

-- no record begins with the DIF of manufacturer data or with a filler
first_of : (r : DataRecord) → IsRecord r → r.dib.dif % 16 ≡ 15 → ⊥
first_of r is = not_special r.dib.dif r.contents.lvar _ is.sent

first_is : (bytes : List ℕ) (start : ℕ) (r : DataRecord) (rest : List ℕ) → start < length bytes → drop start bytes ≡ spelling r ++ rest
    → get_or bytes start 0 ≡ r.dib.dif
first_is bytes start r rest lt spelled = let first = rest_at bytes start lt in cc

within_from : (bytes : List ℕ) (start first : ℕ) (rest : List ℕ) → drop start bytes ≡ first ∷ rest → start < length bytes
within_from bytes start first rest e =
    ⊎_elim (λ lt. lt) (λ le. absurd (let none = drop_all start bytes le in cc)) (cases_lt start (length bytes))

-- where a span stands there is a byte
pub span_within : (bytes : List ℕ) (span : RecordSpan) → IsSpanOf bytes span → span.start < length bytes
span_within bytes span (inl s) = within_from bytes span.start s.found.dib.dif _ s.spelled
span_within bytes span (inr s) = slice_get_within bytes span.start span.dif s.stands

-- and that byte is no filler
pub span_not_filler : (bytes : List ℕ) (span : RecordSpan) → IsSpanOf bytes span → get_or bytes span.start 0 ≡ 0x2f → ⊥
span_not_filler bytes span (inl s) filler =
    let first = first_is bytes span.start s.found s.rest (span_within bytes span (inl s)) s.spelled in
    first_of s.found s.is_record (omega (arith, first, filler))
span_not_filler bytes span (inr s) filler =
    let first = get_or_from_slice_get bytes span.start span.dif 0 s.stands in
    ⊎_elim (λ a. omega (arith, first, filler)) (λ a. omega (arith, first, filler)) s.dif

-- ---- the span at a place

is_maker : (dif : ℕ) → begins_maker dif ≡ true → (dif ≡ 0x0f) ⊎ (dif ≡ 0x1f)
is_maker dif e =
    ⊎_elim (λ a. inl (eqb-true _ _ a)) (λ a. inr (eqb-true _ _ a)) (or_cases (eqb dif 0x0f) (eqb dif 0x1f) e)

maker_is : (dif : ℕ) → ((dif ≡ 0x0f) ⊎ (dif ≡ 0x1f)) → begins_maker dif ≡ true
maker_is dif (inl a) = rw a refl
maker_is dif (inr a) = rw a refl

pub no_maker : (dif : ℕ) → (dif ≡ 0x0f → ⊥) → (dif ≡ 0x1f → ⊥) → begins_maker dif ≡ false
no_maker dif not_0f not_1f = or_from (eqb dif 0x0f) (eqb dif 0x1f) (ne_eqb dif 0x0f not_0f) (ne_eqb dif 0x1f not_1f)

span_at-maker : (len start dif : ℕ) (rest : List ℕ) → begins_maker dif ≡ true
    → span_at len start (dif ∷ rest) ≡ Ok (maker_span start dif len)
unfolding span_at
span_at-maker len start dif rest e = rw e refl

pub span_at-record : (len start dif : ℕ) (rest : List ℕ) → begins_maker dif ≡ false
    → span_at len start (dif ∷ rest) ≡ (record_at start (dif ∷ rest) >>= λ found. Ok (span_of start found.0))
unfolding span_at
span_at-record len start dif rest e = rw e refl

-- why no span begins at a place
abbrev NoSpan : List ℕ → ℕ → RecordFault → Type 0
NoSpan bytes start fault = (begins_maker (get_or bytes start 0) ≡ false) × Stops start (drop start bytes) fault

-- what is answered at a place stands there, and a fault shows its cause
span_reads : (bytes : List ℕ) (start : ℕ) → start < length bytes
    → Reads (λ span. IsSpanOf bytes span × (span.start ≡ start)) (NoSpan bytes start) (span_at (length bytes) start (drop start bytes))
span_reads bytes start lt =
    let dif = get_or bytes start 0 in
    let first = rest_at bytes start lt in
    subst (λ (rest : List ℕ). Reads (λ span. IsSpanOf bytes span × (span.start ≡ start))
    (λ fault. (begins_maker dif ≡ false) × Stops start rest fault) (span_at (length bytes) start rest)) (sym first)
    (elim (cases_Bool (begins_maker dif)) [
      | inl m ↦ rw (span_at-maker (length bytes) start dif (drop (start + 1) bytes) m) (record {
        is = (inr (record { dif = is_maker dif m; stands = slice_get-get_or bytes start 0 lt; places = refl }), refl);
      })
      | inr m ↦ rw (span_at-record (length bytes) start dif (drop (start + 1) bytes) m)
          (bind_reads _ _ (record_reads start (dif ∷ drop (start + 1) bytes)) (λ fault stops. (m, stops))
          (λ x t. record {
            is = (inl (record { found = x.0; is_record = t.1; rest = x.1; spelled = first ∙ t.0; places = refl }), refl);
          }))
    ])

-- what stands at a place is answered
pub span_again : (bytes : List ℕ) (span : RecordSpan) → IsSpanOf bytes span
    → span_at (length bytes) span.start (drop span.start bytes) ≡ Ok span
span_again bytes span (inl s) =
    let r = s.found in
    let other : begins_maker r.dib.dif ≡ false =
    no_maker r.dib.dif (λ e. first_of r s.is_record (omega arith)) (λ e. first_of r s.is_record (omega arith)) in
    let at_record : span_at (length bytes) span.start (spelling r ++ s.rest) ≡ Ok (span_of span.start r) =
    span_at-record (length bytes) span.start r.dib.dif _ other
    ∙ ap (λ found. found >>= λ x. Ok (span_of span.start x.0)) (record_again span.start r s.rest s.is_record) in
    ap (span_at (length bytes) span.start) s.spelled ∙ at_record ∙ ap Ok (sym s.places)
span_again bytes span (inr s) =
    let first = rest_at bytes span.start (slice_get_within bytes span.start span.dif s.stands) in
    let dif-is = get_or_from_slice_get bytes span.start span.dif 0 s.stands in
    let at_first : span_at (length bytes) span.start (span.dif ∷ drop (span.start + 1) bytes) ≡ Ok
    (maker_span span.start span.dif (length bytes)) = span_at-maker (length bytes) span.start span.dif (drop (span.start + 1) bytes)
    (maker_is span.dif s.dif) in
    ap (span_at (length bytes) span.start) (first ∙ ap (λ (d : ℕ). d ∷ drop (span.start + 1) bytes) dif-is) ∙ at_first
    ∙ ap Ok (sym s.places)

-- ---- the next span

pub next_of-end : (bytes : List ℕ) (from : ℕ) → length bytes ≤ from → next_of bytes from ≡ Ok None
unfolding next_at
next_of-end bytes from le = rw (drop_all from bytes le) refl

pub next_of-filler : (bytes : List ℕ) (from : ℕ) → from < length bytes → get_or bytes from 0 ≡ 0x2f
    → next_of bytes from ≡ next_of bytes (from + 1)
unfolding next_at
next_of-filler bytes from lt filler = rw (rest_at bytes from lt, eq-eqb (get_or bytes from 0) 0x2f filler) refl

pub next_of-span : (bytes : List ℕ) (from : ℕ) → from < length bytes → (get_or bytes from 0 ≡ 0x2f → ⊥)
    → next_of bytes from ≡ (span_at (length bytes) from (drop from bytes) >>= λ span. Ok (Some span))
unfolding next_at
next_of-span bytes from lt other = rw (rest_at bytes from lt, ne_eqb (get_or bytes from 0) 0x2f other) refl

-- ---- fillers

-- what comes next is the same on both sides of fillers
skip_in : (count : ℕ) (bytes : List ℕ) (from to : ℕ) → from + count ≡ to → AreFillers bytes from to → next_of bytes from ≡ next_of bytes to
skip_in zero bytes from to e f = let here : from ≡ to = omega arith in ap (next_of bytes) here
skip_in (suc count) bytes from to e f =
    let lt : from < length bytes = omega (arith, f.within) in
    next_of-filler bytes from lt (get_or_from_slice_get bytes from 0x2f 0 (f.fillers from (omega arith) (omega arith)))
    ∙ skip_in count bytes (from + 1) to (omega arith) (record {
      ordered = omega arith;
      within = f.within;
      fillers = λ place low high. f.fillers place (omega arith) high;
    })

pub skip : (bytes : List ℕ) (from to : ℕ) → AreFillers bytes from to → next_of bytes from ≡ next_of bytes to
skip bytes from to f = skip_in (to - from) bytes from to (omega (arith, f.ordered)) f

-- the fillers from a place on, up to the end or to another byte
record Run (bytes : List ℕ) (from : ℕ) : Type 0 where
  to : ℕ
  fillers : AreFillers bytes from to
  ends : (to ≡ length bytes) ⊎ ((to < length bytes) × (get_or bytes to 0 ≡ 0x2f → ⊥))

no_fillers : (bytes : List ℕ) (from : ℕ) → from ≤ length bytes → AreFillers bytes from from
no_fillers bytes from le = record { ordered = omega arith; within = le; fillers = λ place low high. absurd (omega arith) }

run_in : (left : ℕ) (bytes : List ℕ) (from : ℕ) → from + left ≡ length bytes → Run bytes from
run_in zero bytes from all = record { to = from; fillers = no_fillers bytes from (omega arith); ends = inl (omega arith) }
run_in (suc left) bytes from all =
    let lt : from < length bytes = omega arith in
    elim (cases_eq (get_or bytes from 0) 0x2f) [
      | inl filler ↦
          let r = run_in left bytes (from + 1) (omega arith) in
          record {
            to = r.to;
            fillers = record {
              ordered = omega (arith, r.fillers.ordered);
              within = r.fillers.within;
              fillers = λ place low high.
                  ⊎_elim (λ here. rw here (slice_get-get_or bytes from 0 lt ∙ ap (λ (b : ℕ). Some b) filler))
                  (λ later. r.fillers.fillers place (omega arith) high) (cases_eq place from);
            };
            ends = r.ends;
          }
      | inr other ↦ record { to = from; fillers = no_fillers bytes from (omega arith); ends = inr (lt, other) }
    ]

-- ---- what next_of answers

pub other_byte : (bytes : List ℕ) (place byte : ℕ) → place < length bytes → (slice_get bytes place ≡ Some byte → ⊥)
    → get_or bytes place 0 ≡ byte → ⊥
other_byte bytes place byte lt other e = other (slice_get-get_or bytes place 0 lt ∙ ap (λ (b : ℕ). Some b) e)

no_maker_there : (bytes : List ℕ) (place dif : ℕ) → begins_maker (get_or bytes place 0) ≡ false → begins_maker dif ≡ true
    → slice_get bytes place ≡ Some dif → ⊥
no_maker_there bytes place dif not_here is_maker there =
    both_ways (begins_maker dif) (ap begins_maker (sym (get_or_from_slice_get bytes place dif 0 there)) ∙ not_here) is_maker

pub next_reads : (bytes : List ℕ) (from : ℕ) → from ≤ length bytes → Reads (IsNext bytes from) (EndsBy bytes from) (next_of bytes from)
next_reads bytes from le =
    let r = run_in (length bytes - from) bytes from (omega arith) in
    subst (Reads (IsNext bytes from) (EndsBy bytes from)) (sym (skip bytes from r.to r.fillers)) (at_run r)
  where
    at_run : (r : Run bytes from) → Reads (IsNext bytes from) (EndsBy bytes from) (next_of bytes r.to)
    at_run r =
        elim r.ends [
          | inl end ↦ subst (Reads (IsNext bytes from) (EndsBy bytes from)) (sym (next_of-end bytes r.to (omega arith)))
              (record { is = subst (AreFillers bytes from) end r.fillers })
          | inr stop ↦ subst (Reads (IsNext bytes from) (EndsBy bytes from)) (sym (next_of-span bytes r.to stop.0 stop.1))
              (bind_reads _ _ (span_reads bytes r.to stop.0)
              (λ fault none. record {
                place = r.to;
                fillers = r.fillers;
                within = stop.0;
                not_filler = λ filler. stop.1 (get_or_from_slice_get bytes r.to 0x2f 0 filler);
                not_maker = no_maker_there bytes r.to 0x0f none.0 refl;
                nor_more = no_maker_there bytes r.to 0x1f none.0 refl;
                stops = none.1;
              })
              (λ span found. record { is = (subst (AreFillers bytes from) (sym found.1) r.fillers, found.0) }))
        ]

pub next_found : (bytes : List ℕ) (from : ℕ) (next : Option RecordSpan) → from ≤ length bytes → next_of bytes from ≡ Ok next
    → IsNext bytes from next
next_found bytes from next le e = (subst (Reads _ _) e (next_reads bytes from le)).is

pub next_only : (bytes : List ℕ) (from : ℕ) (next : Option RecordSpan) → from ≤ length bytes → IsNext bytes from next
    → next_of bytes from ≡ Ok next
next_only bytes from None le n = skip bytes from (length bytes) n ∙ next_of-end bytes (length bytes) (omega arith)
next_only bytes from (Some span) le n =
    skip bytes from span.start n.0
    ∙ next_of-span bytes span.start (span_within bytes span n.1) (span_not_filler bytes span n.1)
    ∙ ap (λ found. found >>= λ s. Ok (Some s)) (span_again bytes span n.1)

-- where none begins, a fault is answered
pub none_refuses : (bytes : List ℕ) (from : ℕ) → NoneBegins bytes from → IsErr (next_of bytes from)
none_refuses bytes from n =
    subst IsErr (sym (skip bytes from n.place n.fillers
    ∙ next_of-span bytes n.place n.within (other_byte bytes n.place 0x2f n.within n.not_filler)))
    (refused (span_at (length bytes) n.place (drop n.place bytes)) (span_reads bytes n.place n.within))
  where
    refused : (r : Result RecordSpan RecordFault) → Reads (λ span. IsSpanOf bytes span × (span.start ≡ n.place)) (NoSpan bytes n.place) r
        → IsErr (r >>= λ span. Ok (Some span))
    refused (Ok span) h = absurd (n.no_span span h.is.1 h.is.0)
    refused (Err fault) h = refl

-- a turn of the loop over the fillers that ends it
pub ends_here : (bytes : List ℕ) (from : ℕ) (r : Result RecordSpan RecordFault) (total : Result (Option RecordSpan) RecordFault)
    → from < length bytes → (get_or bytes from 0 ≡ 0x2f → ⊥) → r ≡ span_at (length bytes) from (drop from bytes)
    → next_of bytes from ≡ total → (r >>= λ span. Ok (Some span)) ≡ total
ends_here bytes from r total lt other e so_far =
    ap (λ found. found >>= λ span. Ok (Some span)) e ∙ sym (next_of-span bytes from lt other) ∙ so_far

-- ---- the places of a span

record_within : (bytes : List ℕ) (start : ℕ) (r : DataRecord) (rest : List ℕ) → start < length bytes
    → drop start bytes ≡ spelling r ++ rest → LiesWithin bytes (span_of start r)
record_within bytes start r rest lt spelled =
    let len = ap length spelled in
    let dropped = length-drop start bytes in
    let all = length-append (spelling r) rest in
    let tail = length-append r.dib.difes (vib_spelling r.vib ++ contents_spelling r.contents) in
    let unit = length-append r.vib.text r.vib.vifes in
    let middle = length-append (vib_spelling r.vib) (contents_spelling r.contents) in
    let data_part = length-append (option_to_list r.contents.lvar) r.contents.sent in
    record { begins = omega arith; text = omega arith; vifes = omega arith; ends = refl; within = omega arith }

maker_within : (bytes : List ℕ) (start dif : ℕ) → start < length bytes → LiesWithin bytes (maker_span start dif (length bytes))
maker_within bytes start dif lt =
    record { begins = omega arith; text = refl; vifes = omega arith; ends = omega arith; within = omega arith }

-- a span of these bytes lies within them
pub LiesWithin-from_span : (bytes : List ℕ) (span : RecordSpan) → IsSpanOf bytes span → LiesWithin bytes span
LiesWithin-from_span bytes span (inl s) =
    subst (λ (x : RecordSpan). LiesWithin bytes x) (sym s.places)
    (record_within bytes span.start s.found s.rest (span_within bytes span (inl s)) s.spelled)
LiesWithin-from_span bytes span (inr s) =
    subst (λ (x : RecordSpan). LiesWithin bytes x) (sym s.places) (maker_within bytes span.start span.dif (span_within bytes span (inr s)))

-- ---- the clauses of next_record

pub if_next : (bytes : List ℕ) (from : ℕ) (r : Result (Option RecordSpan) RecordFault) (P : Option RecordSpan → Type 0)
    → from ≤ length bytes → r ≡ next_of bytes from → ((next : Option RecordSpan) → IsNext bytes from next → P next) → IfOk r P
if_next bytes from (Ok next) P le e f = f next (next_found bytes from next le (sym e))
if_next bytes from (Err fault) P le e f = tt

pub onward_is : (bytes : List ℕ) (from : ℕ) (next : Option RecordSpan) → IsNext bytes from next → IfSome next (λ span. from ≤ span.start)
onward_is bytes from None n = tt
onward_is bytes from (Some span) n = n.0.ordered

pub within_is : (bytes : List ℕ) (from : ℕ) (next : Option RecordSpan) → IsNext bytes from next → IfSome next (LiesWithin bytes)
within_is bytes from None n = tt
within_is bytes from (Some span) n = LiesWithin-from_span bytes span n.1

-- ---- what a reader of a span needs

chain_not_empty : (byte : ℕ) (part : List ℕ) → IsChain byte part → 128 ≤ byte → 0 < length part
chain_not_empty byte [] chain le = absurd (omega (arith, chain))
chain_not_empty byte (next ∷ others) chain le = omega arith

-- behind a VIF with its top bit stands a VIFE
pub first_vife_within : (bytes : List ℕ) (span : RecordSpan) → IsSpanOf bytes span → span.maker ≡ false → 128 ≤ span.vif → (0 < span.vifes)
    × (span.vifes_at < length bytes)
first_vife_within bytes span (inl s) not_maker le =
    let top : 128 ≤ s.found.vib.vif = subst (λ (x : RecordSpan). 128 ≤ x.vif) s.places le in
    let some : 0 < length s.found.vib.vifes = chain_not_empty s.found.vib.vif s.found.vib.vifes s.is_record.vifes top in
    let some_vifes : 0 < span.vifes = subst (λ (x : RecordSpan). 0 < x.vifes) (sym s.places) some in
    let places = LiesWithin-from_span bytes span (inl s) in
    (some_vifes, omega (arith, places.vifes, places.ends, places.within))
first_vife_within bytes span (inr s) not_maker le =
    absurd (let is_maker_span : true ≡ span.maker = ap (λ (x : RecordSpan). x.maker) (sym s.places) in cc)

-- of a record the DIF and the LVAR announce as many bytes of data as there are
pub width_of_span : (bytes : List ℕ) (span : RecordSpan) → IsSpanOf bytes span → span.maker ≡ false
    → data_width span.dif span.lvar ≡ Some span.data_len
width_of_span bytes span (inl s) not_maker =
    subst (λ (x : RecordSpan). data_width x.dif x.lvar ≡ Some x.data_len) (sym s.places) s.is_record.sent
width_of_span bytes span (inr s) not_maker =
    absurd (let is_maker_span : true ≡ span.maker = ap (λ (x : RecordSpan). x.maker) (sym s.places) in cc)
