-- The tree of the last readings is shown by its text, and read back.
use Rattle.std.proofs.Common.{◌≡◌, ℕ, zero, suc, ◌+◌, ◌-◌, ◌%◌, ◌^◌, ◌<◌, ◌≤◌, ◌==◌, true, ◌&&◌, List, [], ◌∷◌, length, map, ℤ, pos}
use Rattle.std.proofs.Common.{negsuc, neg_ℤ, ◌≤ℤ◌, Option, Some, Result, Ok, inl, inr, sym, ap, subst, refl, arith}
use Rattle.std.specs.Prelude.{nat_le, int_le, slice_index, IfSome}
use Rattle.std.specs.List.{AllByRecursion, list_all}
use Rattle.std.proofs.lemmas.Bool.{and_parts, cond_both, leb-true}
use Rattle.std.proofs.lemmas.Int.{ints}
use Rattle.serde_json.specs.Data.{number, string, object, unsigned}
use Rattle.meter_address.specs.declared.address.Address.{Address}
use Rattle.meter_address.specs.declared.commission.Mode.{Mode}
use Rattle.meter_address.specs.declared.commission.Mode.TheVariants.{Five, Seven}
use Rattle.dif_vif.specs.declared.fault.RecordFault.{RecordFault}
use Rattle.dif_vif.specs.declared.span.RecordSpan.{RecordSpan}
use Rattle.dif_vif.specs.Listing.{next_spans, spans_from}
use Rattle.dif_vif.specs.Numbers.{low_first, tariff_of, subunit_of}
use Rattle.dif_vif.specs.Reading.{next_of}
use Rattle.dif_vif.specs.Spans.{IsSpanOf}
use Rattle.dif_vif.proofs.Digits.{number_bound, low_first-by_one}
use Rattle.dif_vif.proofs.Spans.{next_found, LiesWithin-from_span}
use Rattle.record_values.specs.declared.unit_tables.UnitRow.{UnitRow}
use Rattle.record_values.specs.declared.units.Unit.{Unit}
use Rattle.record_values.specs.declared.values.Value.{Value}
use Rattle.record_values.specs.Units.{primary, after_fd, after_fb, is_scaled, unit_by, unit_in, unit}
use Rattle.record_values.specs.Values.{value}
use Rattle.meter_slots.specs.declared.reading.Reading.{Reading}
use Rattle.meter_slots.specs.Journal.{SlotView}
use Rattle.meter_slots.specs.Resuming.{last_known}
use Rattle.record_text.specs.Lines.{fault_text}
use Rattle.report_text.specs.Readings.{listed, next_listed, is_full, fault_behind, more_behind, members, record_members, maker_members}
use Rattle.report_text.specs.Readings.{list_tree, maker_tree, record_tree, span_tree}
use Rattle.report_text.specs.Readings.{mode_number, payload_of, meter_members, meter_tree, readings_tree, IsNumbered, LastIsNumbered}
use Rattle.report_text.proofs.ShownTrees.{IsShown, IsSmall, ◌⟫◌, none_left, object_shown, list_shown, string_shown, number_shown}
use Rattle.report_text.proofs.ShownTrees.{integer_shown, boolean_shown, option_shown, choice_shown}

-- ---- the numbers of a record

-- the register that a record is of
record HasSmallRegister (span : RecordSpan) : Type 0 where
  storage : span.storage < 2 ^ 64
  tariff : span.tariff < 2 ^ 64
  subunit : span.subunit < 2 ^ 64

register_of : (payload : List ℕ) (span : RecordSpan) → IsSpanOf payload span → HasSmallRegister span
register_of payload span (inl s) =
    let difes = s.found.dib.difes in
    let few = s.is_record.few_difes in
    let digits = map (λ dife. dife % 16) difes in
    let storage = number_bound 16 1 difes 0 (low_first 16 digits) (omega arith) few (sym (low_first-by_one 16 difes)) in
    let tariff = number_bound 4 16 difes 0 (tariff_of difes) (omega arith) few refl in
    let subunit = number_bound 2 64 difes 0 (subunit_of difes) (omega arith) few refl in
    record {
      storage = omega (arith, storage, ap (λ x. x.storage) s.places);
      tariff = omega (arith, tariff, ap (λ x. x.tariff) s.places);
      subunit = omega (arith, subunit, ap (λ x. x.subunit) s.places);
    }
register_of payload span (inr s) = record {
  storage = omega (arith, ap (λ x. x.storage) s.places);
  tariff = omega (arith, ap (λ x. x.tariff) s.places);
  subunit = omega (arith, ap (λ x. x.subunit) s.places);
}

abbrev minus : ℕ → ℤ
minus n = neg_ℤ (pos n)

by_bounds : (z : ℤ) → minus 64 ≤ℤ z → z ≤ℤ pos 64 → IsSmall z
by_bounds (pos n) low high = omega (arith, ints, high)
by_bounds (negsuc n) low high = omega (arith, ints, low)

row_exponent : (r : UnitRow) (code place count : ℕ) → is_scaled r ≡ true → code ≤ r.last → IsSmall (unit_by r code place count).exponent
row_exponent r code place count scaled inside =
    let parts = and_parts (nat_le r.last (r.first + 15)) _ scaled in
    let least = and_parts (int_le (minus 12) r.least) _ parts.1 in
    let few : r.last ≤ r.first + 15 = leb-true r.last (r.first + 15) parts.0 in
    let low : minus 12 ≤ℤ r.least = grind (arith, ints, least.0) in
    let high : r.least ≤ℤ pos 0 = grind (arith, ints, least.1) in
    by_bounds (unit_by r code place count).exponent (omega (arith, ints, low)) (omega (arith, ints, high, few, inside))

exponent_in : (rows : List UnitRow) (code place count : ℕ) → list_all is_scaled rows ≡ true
    → IsSmall (unit_in rows code place count).exponent
exponent_in [] code place count scaled = omega arith
exponent_in (r ∷ rows) code place count scaled =
    let parts = and_parts (is_scaled r) (list_all is_scaled rows) scaled in
    cond_both (nat_le r.first code && nat_le code r.last) (unit_by r code place count) (unit_in rows code place count)
    (λ u. IsSmall u.exponent)
    (λ here. row_exponent r code place count parts.0 (leb-true code r.last (and_parts (nat_le r.first code) _ here).1))
    (λ _. exponent_in rows code place count parts.1)

exponent_of : (payload : List ℕ) (span : RecordSpan) → IsSmall (unit payload span).exponent
exponent_of payload span =
    let second = slice_index payload span.vifes_at % 128 in
    let IsFit = λ (u : Unit). IsSmall u.exponent in
    cond_both span.maker _ _ IsFit (λ _. omega arith)
    (λ _. cond_both (span.vif == 0xfb) _ _ IsFit (λ _. exponent_in after_fb second (span.vifes_at + 1) (span.vifes - 1) refl)
    (λ _. cond_both (span.vif == 0xfd) _ _ IsFit (λ _. exponent_in after_fd second (span.vifes_at + 1) (span.vifes - 1) refl)
    (λ _. exponent_in primary (span.vif % 128) span.vifes_at span.vifes refl)))

-- ---- records

record_shown : (payload : List ℕ) (span : RecordSpan) (u : Unit) (v : Value) → HasSmallRegister span → IsSmall u.exponent
    → IsShown 1 (object (members (record_members payload span u v)))
record_shown payload span u v register small = object_shown (members (record_members payload span u v))
    (search (◌⟫◌, none_left, string_shown, number_shown, integer_shown) depth 14)

maker_shown : (payload : List ℕ) (span : RecordSpan) → IsShown 1 (maker_tree payload span)
maker_shown payload span = object_shown (members (maker_members payload span))
    (string_shown ⟫ string_shown ⟫ none_left)

span_shown : (payload : List ℕ) (span : RecordSpan) → IsSpanOf payload span → IsShown 1 (span_tree payload span)
span_shown payload span is = choice_shown span.maker (maker_tree payload span) (record_tree payload span) (maker_shown payload span)
    (record_shown payload span (unit payload span) (value payload span) (register_of payload span is) (exponent_of payload span))

-- each of these records is shown
abbrev AreRecords : List ℕ → List RecordSpan → Type 0
AreRecords payload spans = AllByRecursion (λ span. IsShown 1 (span_tree payload span)) spans

next_shown : (payload : List ℕ) (from : ℕ) (rest : ℕ → List RecordSpan) → from ≤ length payload
    → ((place : ℕ) → place ≤ length payload → AreRecords payload (rest place))
    → (next : Result (Option RecordSpan) RecordFault) → next_of payload from ≡ next → AreRecords payload (next_spans rest next)
next_shown payload from rest inside later (Ok (Some span)) is =
    let found = next_found payload from (Some span) inside is in
    (span_shown payload span found.1, later span.end (LiesWithin-from_span payload span found.1).within)
next_shown payload from rest inside later _ is = tt

spans_shown : (n : ℕ) (payload : List ℕ) (from : ℕ) → from ≤ length payload → AreRecords payload (spans_from n payload from)
unfolding spans_from
spans_shown zero payload from inside = tt
spans_shown (suc n) payload from inside =
    next_shown payload from (spans_from n payload) inside (λ place h. spans_shown n payload place h) (next_of payload from) refl

-- the records of a payload that are listed
pub listed_shown : (payload : List ℕ) → IsShown 2 (list_tree (map (span_tree payload) (listed payload)))
listed_shown payload = list_shown (span_tree payload) (listed payload) (spans_shown 256 payload 0 (omega arith))

-- ---- meters

mode_is_small : (mode : Mode) → mode_number mode < 2 ^ 64
mode_is_small Five = omega arith
mode_is_small Seven = omega arith

numbered : (last : Option Reading) (r : Reading) → IfSome last IsNumbered → last ≡ Some r → IsNumbered r
numbered last r h is = subst (λ o. IfSome o IsNumbered) is h

meter_shown : (address : Address) (mode : Mode) (last : Option Reading) (payload : List ℕ) → IfSome last IsNumbered
    → IsShown 3 (object (members (meter_members address mode last payload)))
meter_shown address mode last payload h =
    let spans = listed payload in
    let next = next_listed payload in
    object_shown (members (meter_members address mode last payload))
    (string_shown
    ⟫ option_shown (λ r. number (unsigned r.at)) last (λ r is. number_shown r.at (numbered last r h is).0)
    ⟫ option_shown (λ r. number (unsigned r.counter)) last (λ r is. number_shown r.counter (omega (arith, (numbered last r h is).1)))
    ⟫ option_shown (λ fault. string (fault_text fault)) (fault_behind (is_full spans) next) (λ fault _. string_shown)
    ⟫ number_shown (mode_number mode) (mode_is_small mode)
    ⟫ boolean_shown (more_behind (is_full spans) next)
    ⟫ listed_shown payload
    ⟫ none_left)

slots_shown : (slots : List SlotView) → AllByRecursion LastIsNumbered slots → AllByRecursion (λ b. IsShown 3 (meter_tree b)) slots
slots_shown [] h = tt
slots_shown (b ∷ slots) h =
    let last = last_known b.start b.journal in
    (meter_shown b.start.address b.start.mode last (payload_of last) h.0, slots_shown slots h.1)

pub readings_shown : (slots : List SlotView) → AllByRecursion LastIsNumbered slots → IsShown 5 (readings_tree slots)
readings_shown slots h = object_shown _ (list_shown meter_tree slots (slots_shown slots h) ⟫ none_left)
