-- The words of a record are plain.
use Rattle.std.proofs.Common.{◌≡◌, ℕ, ℤ, zero, suc, ◌-◌, ◌%◌, ◌<◌, ◌==◌, nat_lt, Bool, true, false, cond, List, [], ◌∷◌, ◌++◌, length, Option, Some, None}
use Rattle.std.proofs.Common.{option_map, refl, arith, int_lt, unsigned_abs, pos}
use Rattle.std.specs.Prelude.{codes}
use Rattle.std.specs.Fmt.{decimal}
use Rattle.hex.specs.Hex.{encode_lower}
use Rattle.std.proofs.lemmas.Bool.{cond_both, eqb-true, and_from}
use Rattle.paper.specs.Pieces.{labelled_bytes}
use Rattle.record_values.specs.declared.units.Quantity.{Quantity}
use Rattle.record_values.specs.declared.units.Quantity.TheVariants as profile
use Rattle.record_values.specs.declared.units.UnitName.{UnitName}
use Rattle.record_values.specs.declared.units.UnitName.TheVariants as names
use Rattle.record_text.specs.Values.{two_digits, four_digits, marked}
use Rattle.record_text.specs.Words.{function_text, quantity_text, name_text}
use Rattle.dif_vif.specs.declared.span.RecordSpan.{RecordSpan}
use Rattle.full_records.specs.declared.quantities.FullQuantity.{FullQuantity}
use Rattle.full_records.specs.declared.quantities.FullQuantity.TheVariants as quantities
use Rattle.full_records.specs.declared.quantities.FullUnitName.{FullUnitName}
use Rattle.full_records.specs.declared.quantities.FullUnitName.TheVariants as units
use Rattle.full_records.specs.declared.qualifiers.Qualifier.{Qualifier}
use Rattle.full_records.specs.declared.qualifiers.QualifierName.{QualifierName}
use Rattle.full_records.specs.declared.qualifiers.QualifierName.TheVariants as qualifiers
use Rattle.full_records.specs.declared.qualifiers.VifePlace.{VifePlace}
use Rattle.full_records.specs.declared.qualifiers.VifePlace.TheVariants.{Combinable, Extension, Own}
use Rattle.full_records.specs.declared.readings.DataType.{DataType}
use Rattle.full_records.specs.declared.readings.DataType.TheVariants as types
use Rattle.full_records.specs.declared.moments.Day.{Day}
use Rattle.full_records.specs.declared.moments.TimeOfDay.{TimeOfDay}
use Rattle.full_records.specs.declared.values.FullValue.{FullValue}
use Rattle.full_records.specs.declared.values.FullValue.TheVariants as values
use Rattle.full_records.specs.Qualifiers.{combinable, qualifier_in, qualifier_at, qualifiers_from, place_behind}
use Rattle.full_text.specs.declared.backwards.ByteForm.TheVariants as forms
use Rattle.full_text.specs.declared.reals.Decimal.{Decimal}
use Rattle.full_text.specs.Decimals.{pointed, lengthened, scaled, sign_of, decimal_text}
use Rattle.full_text.specs.Said.{coded_text, one_qualifier_text, is_open, space_if, unset_words, unset_text, qualifiers_behind}
use Rattle.full_text.specs.Values.{is_plain as is_shown, character_text, byte_text, part_text, year_text, day_text, minute_text, time_text}
use Rattle.full_text.specs.Values.{marks_text, moment_text, long_moment_text, real_times, real_word, decimal_or, full_value_text}
use Rattle.full_text.specs.Words.{full_quantity_text, full_unit_text, qualifier_text, type_text}
use Rattle.record_objects.specs.Records.{function_words}
use Rattle.record_objects.proofs.Plain.{IsPlain, AreBytes, ◌⌢◌, literal, choice_plain, take_plain, drop_plain, zeros_plain, number_plain}
use Rattle.record_objects.proofs.Plain.{one_byte, hex_plain, reversed_plain, is_plain}
use Rattle.std.proofs.lemmas.Bool.Decides.{nat_tests}

labelled_plain : {word : List ℕ} → IsPlain word → (b : ℕ) → b < 256 → IsPlain (labelled_bytes word (b ∷ []))
unfolding labelled_bytes
labelled_plain h b small = h ⌢ hex_plain (one_byte b small)

-- ---- words

function_by : (first second third : Bool)
    → IsPlain (cond first (codes "instantaneous") (cond second (codes "maximum") (cond third (codes "minimum") (codes "error"))))
function_by true _ _ = literal (codes "instantaneous") refl
function_by false true _ = literal (codes "maximum") refl
function_by false false true = literal (codes "minimum") refl
function_by false false false = literal (codes "error") refl

pub function_plain : (span : RecordSpan) → span.dif < 256 → IsPlain (function_words span)
function_plain span small = choice_plain span.maker (labelled_plain (literal (codes "maker ") refl) span.dif small)
    (function_by (span.function == 0) (span.function == 1) (span.function == 2))

pub profile_plain : (q : Quantity) → IsPlain (quantity_text q)
profile_plain profile.Energy = record { passed = refl }
profile_plain _ = record { passed = refl }

name_plain : (name : UnitName) → IsPlain (name_text name)
name_plain names.WattHour = record { passed = refl }
name_plain _ = record { passed = refl }

pub quantity_plain : (q : FullQuantity) → IsPlain (full_quantity_text q)
quantity_plain (quantities.Profile q) = profile_plain q
quantity_plain _ = record { passed = refl }

pub unit_plain : (u : FullUnitName) → IsPlain (full_unit_text u)
unit_plain (units.Profile name) = name_plain name
unit_plain _ = record { passed = refl }

pub type_plain : (t : DataType) → IsPlain (type_text t)
type_plain types.Untyped = record { passed = refl }
type_plain _ = record { passed = refl }

-- ---- qualifiers

name_of_plain : (name : QualifierName) → IsPlain (qualifier_text name)
name_of_plain qualifiers.TooManyDifes = record { passed = refl }
name_of_plain _ = record { passed = refl }

one_plain : (q : Qualifier) → q.code < 256 → IsPlain (one_qualifier_text q)
unfolding coded_text
one_plain q small = choice_plain (is_open q.name)
    (name_of_plain q.name ⌢ literal (codes "-") refl ⌢ hex_plain (one_byte q.code small)) (name_of_plain q.name)

code_is : (rows : List Qualifier) (code : ℕ) → (qualifier_in rows code).code ≡ code
code_is [] code = refl
code_is (q ∷ rows) code = cond_both (q.code == code) q (qualifier_in rows code) (λ (found : Qualifier). found.code ≡ code)
    (λ is. eqb-true q.code code is) (λ _. code_is rows code)

code_at : (place : VifePlace) (code : ℕ) → (qualifier_at place code).code ≡ code
code_at Combinable code = code_is combinable code
code_at Extension code = refl
code_at Own code = refl

space_plain : (later : Bool) → IsPlain (space_if later)
space_plain later = choice_plain later (literal (codes " ") refl) (literal [] refl)

unset_plain : (later unset : Bool) → IsPlain (unset_text later unset)
unfolding unset_words
unset_plain later unset = choice_plain unset (space_plain later ⌢ literal (codes "unset") refl) (literal [] refl)

qualifiers_plain : (later : Bool) (place : VifePlace) (vifes : List ℕ) (unset : Bool)
    → IsPlain (qualifiers_behind later (qualifiers_from place vifes) unset)
qualifiers_plain later place [] unset = unset_plain later unset
qualifiers_plain later place (vife ∷ vifes) unset =
    let code = vife % 128 in
    let small : (qualifier_at place code).code < 256 = omega (arith, code_at place code) in
    space_plain later ⌢ one_plain (qualifier_at place code) small ⌢ qualifiers_plain true (place_behind place code) vifes unset

pub words_plain : (place : VifePlace) (vifes : List ℕ) (unset : Bool) → IsPlain (qualifiers_behind false (qualifiers_from place vifes) unset)
words_plain place vifes unset = qualifiers_plain false place vifes unset

-- ---- values

sign_plain : (z : ℤ) → IsPlain (sign_of z)
sign_plain z = choice_plain (int_lt z (pos 0)) (literal (codes "-") refl) (literal [] refl)

pointed_plain : {digits : List ℕ} → IsPlain digits → (behind : ℕ) → IsPlain (pointed digits behind)
unfolding pointed
pointed_plain {digits} h behind = choice_plain (nat_lt behind (length digits))
    (take_plain (length digits - behind) h ⌢ literal (codes ".") refl ⌢ drop_plain (length digits - behind) h)
    (literal (codes "0.") refl ⌢ zeros_plain (behind - length digits) ⌢ h)

lengthened_plain : (n count : ℕ) → IsPlain (lengthened n count)
unfolding lengthened
lengthened_plain n count = choice_plain (n == 0) (number_plain n) (number_plain n ⌢ zeros_plain count)

decimal_plain : (whole exponent : ℤ) → IsPlain (decimal_text whole exponent)
unfolding decimal_text
decimal_plain whole exponent = sign_plain whole ⌢ choice_plain (int_lt exponent (pos 0))
    (pointed_plain (number_plain (unsigned_abs whole)) (unsigned_abs exponent)) (lengthened_plain (unsigned_abs whole) (unsigned_abs exponent))

two_plain : (n : ℕ) → IsPlain (two_digits n)
unfolding two_digits
two_plain n = number_plain _ ⌢ number_plain _

four_plain : (n : ℕ) → IsPlain (four_digits n)
unfolding four_digits
four_plain n = two_plain _ ⌢ two_plain _

part_plain : (part : Option ℕ) → IsPlain (part_text part)
part_plain None = literal (codes "*") refl
part_plain (Some n) = two_plain n

year_plain : (year : Option ℕ) → IsPlain (year_text year)
year_plain None = literal (codes "*") refl
year_plain (Some n) = four_plain n

day_plain : (d : Day) → IsPlain (day_text d)
unfolding day_text
day_plain d = year_plain d.year ⌢ literal (codes "-") refl ⌢ part_plain d.month ⌢ literal (codes "-") refl ⌢ part_plain d.day

minute_plain : (hour minute : Option ℕ) → IsPlain (minute_text hour minute)
unfolding minute_text
minute_plain hour minute = part_plain hour ⌢ literal (codes ":") refl ⌢ part_plain minute

time_plain : (t : TimeOfDay) → IsPlain (time_text t)
unfolding time_text
time_plain t = minute_plain t.hour t.minute ⌢ literal (codes ":") refl ⌢ part_plain t.second

marks_plain : (invalid summer : Bool) → IsPlain (marks_text invalid summer)
unfolding marks_text
marks_plain invalid summer =
    choice_plain invalid (literal (codes "!") refl) (literal [] refl) ⌢ choice_plain summer (literal (codes "+") refl) (literal [] refl)

real_plain : (not_raw number negative : Bool)
    → IsPlain (cond not_raw (codes "raw") (cond number (codes "NaN") (cond negative (codes "-inf") (codes "inf"))))
real_plain true _ _ = literal (codes "raw") refl
real_plain false true _ = literal (codes "NaN") refl
real_plain false false true = literal (codes "-inf") refl
real_plain false false false = literal (codes "inf") refl

or_plain : (o : Option Decimal) {word : List ℕ} → IsPlain word → IsPlain (decimal_or o word)
or_plain None h = h
or_plain (Some d) h = decimal_plain d.whole d.exponent

shown_plain : (b : ℕ) → is_shown b ≡ true → is_plain b ≡ true
shown_plain b h = grind (arith, nat_tests)

character_plain : (b : ℕ) → b < 256 → IsPlain (character_text b)
character_plain b small = cond_both (is_shown b) (b ∷ []) (labelled_bytes (codes "%") (b ∷ [])) IsPlain
    (λ is. record { passed = and_from _ _ (shown_plain b is) refl }) (λ _. labelled_plain (literal (codes "%") refl) b small)

pub value_plain : (v : FullValue) {sent : List ℕ} → AreBytes sent → IsPlain (full_value_text v sent)
unfolding moment_text long_moment_text
value_plain (values.Number whole exponent) h = decimal_plain whole exponent
value_plain (values.Real bits exponent) h = or_plain (real_times bits exponent) (real_plain _ _ _)
value_plain (values.Bits bits) h = literal (codes "0x") refl ⌢ reversed_plain (byte_text forms.Digits) (λ b small. hex_plain (one_byte b small)) h
value_plain (values.Day day) h = day_plain day
value_plain (values.Time time) h = time_plain time
value_plain (values.Moment m) h = day_plain m.day ⌢ literal (codes "T") refl ⌢ minute_plain m.hour m.minute ⌢ marks_plain m.invalid m.summer
value_plain (values.LongMoment m) h = day_plain m.day ⌢ literal (codes "T") refl ⌢ time_plain m.time ⌢ marks_plain m.invalid m.summer
value_plain values.Text h = reversed_plain (byte_text forms.Character) character_plain h
value_plain _ h = record { passed = refl }
