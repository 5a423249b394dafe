-- Texts of plain bytes: ASCII from the space on, but for the quote and the backslash, so that JSON escapes none of them.
use Rattle.std.proofs.Common.{◌≡◌, ℕ, ℤ, pos, negsuc, zero, suc, ◌/◌, ◌%◌, ◌<◌, ◌==◌, nat_lt, Bool, true, false, cond, ◌&&◌, not}
use Rattle.std.proofs.Common.{List, [], ◌∷◌, ◌++◌, get_or, ap₂, refl, arith}
use Rattle.std.specs.Prelude.{nat_le, codes}
use Rattle.std.specs.Fmt.{decimal, signed_decimal}
use Rattle.std.specs.List.{list_all}
use Rattle.std.proofs.lemmas.Bool.{and_parts, and_from}
use Rattle.std.proofs.lemmas.Bool.Decides.{nat_tests}
use Rattle.std.proofs.lemmas.List.Sums.{AllPass-from_list_all}
use Rattle.hex.specs.Hex.{encode_lower, lower_digits}
use Rattle.json.specs.Print.{escape}
use Rattle.json.proofs.Printed.Strings.{escape_byte_plain}
use Rattle.paper.specs.Pieces.{labelled, labelled_bytes}
use Rattle.dif_vif.specs.declared.fault.RecordFault.{RecordFault}
use Rattle.dif_vif.specs.declared.fault.RecordFault.TheVariants.{Truncated}
use Rattle.record_values.specs.declared.units.Quantity.{Quantity}
use Rattle.record_values.specs.declared.units.Quantity.TheVariants as quantities
use Rattle.record_values.specs.declared.units.UnitName.{UnitName}
use Rattle.record_values.specs.declared.units.UnitName.TheVariants as units
use Rattle.record_values.specs.declared.values.Value.{Value}
use Rattle.record_values.specs.declared.values.Value.TheVariants as values
use Rattle.record_text.specs.Lines.{fault_text}
use Rattle.record_text.specs.Values.{two_digits, four_digits, day_text, time_text, marked, value_text}
use Rattle.record_text.specs.Words.{function_text, quantity_text, name_text}
use Rattle.report_text.specs.Readings.{NamesByte}
use Rattle.report_text.proofs.LineWalks.{Passing, ◌⌢◌, literal, IsWithout, differs}
use Rattle.report_text.proofs.LinePieces.{decimal_passes, hex_passes}

abbrev pub is_plain : ℕ → Bool
is_plain b = nat_le 32 b && (nat_lt b 128 && (not (b == 34) && not (b == 92)))

abbrev pub IsPlain : List ℕ → Type 0
IsPlain text = Passing is_plain text

-- ---- what is plain

unescaped : (text : List ℕ) → list_all is_plain text ≡ true → escape text ≡ text
unescaped [] h = refl
unescaped (b ∷ text) h =
    let parts = and_parts _ _ h in
    let plain : is_plain b ≡ true = parts.0 in
    ap₂ (λ (x y : List ℕ). x ++ y)
    (escape_byte_plain b (λ e. grind (arith, nat_tests)) (λ e. grind (arith, nat_tests)) (grind (arith, nat_tests)))
    (unescaped text parts.1)

-- JSON has a plain text as it is
pub as_it_is : {text : List ℕ} → IsPlain text → escape text ≡ text
as_it_is {text} h = unescaped text h.passed

line_differs : (text : List ℕ) → list_all is_plain text ≡ true → list_all (differs 10) text ≡ true
line_differs [] h = refl
line_differs (b ∷ text) h =
    let parts = and_parts _ _ h in
    let plain : is_plain b ≡ true = parts.0 in
    and_from _ _ (grind (arith, nat_tests)) (line_differs text parts.1)

-- no newline stands in a plain text
pub in_line : {text : List ℕ} → IsPlain text → IsWithout 10 text
in_line {text} h = record { passed = line_differs text h.passed }

-- ---- numbers

pub number_plain : (n : ℕ) → IsPlain (decimal n)
number_plain n = decimal_passes (λ d few. grind (arith, nat_tests)) n

pub signed_plain : (z : ℤ) → IsPlain (signed_decimal z)
signed_plain (pos n) = number_plain n
signed_plain (negsuc n) = record { passed = (number_plain (suc n)).passed }

pub labelled_plain : {word : List ℕ} → IsPlain word → (n : ℕ) → IsPlain (labelled word n)
unfolding labelled
labelled_plain h n = h ⌢ number_plain n

-- ---- hexadecimal

digit_plain : (d : ℕ) → d < 16 → is_plain (get_or lower_digits d 0) ≡ true
digit_plain d few = AllPass-from_list_all is_plain lower_digits refl d 0 few

pub hex_plain : (bytes : List ℕ) → ((i : ℕ) → get_or bytes i 0 < 256) → IsPlain (encode_lower bytes)
hex_plain bytes small =
    hex_passes bytes (λ i. let byte = small i in
    (digit_plain (get_or bytes i 0 / 16) (omega arith), digit_plain (get_or bytes i 0 % 16) (omega arith)))

-- ---- faults

hex_labelled_plain : {word : List ℕ} → IsPlain word → (b : ℕ) → b < 256 → IsPlain (labelled_bytes word (b ∷ []))
unfolding labelled_bytes
hex_labelled_plain h b small = h ⌢ hex_plain (b ∷ []) (one_byte b small)
  where
    one_byte : (b : ℕ) → b < 256 → (i : ℕ) → get_or (b ∷ []) i 0 < 256
    one_byte b small zero = small
    one_byte b small (suc i) = omega arith

pub fault_plain : (fault : RecordFault) → NamesByte fault → IsPlain (fault_text fault)
fault_plain (Truncated place) h = search (literal, labelled_plain)
fault_plain _ h = search (literal, labelled_plain, hex_labelled_plain)

-- ---- words

function_by : (first second third : Bool)
    → IsPlain (cond first (codes "instantaneous") (cond second (codes "maximum") (cond third (codes "minimum") (codes "error"))))
function_by true _ _ = literal (codes "instantaneous") refl
function_by false true _ = literal (codes "maximum") refl
function_by false false true = literal (codes "minimum") refl
function_by false false false = literal (codes "error") refl

pub function_plain : (function : ℕ) → IsPlain (function_text function)
function_plain function = function_by (function == 0) (function == 1) (function == 2)

pub quantity_plain : (q : Quantity) → IsPlain (quantity_text q)
quantity_plain quantities.Energy = record { passed = refl }
quantity_plain _ = record { passed = refl }

pub name_plain : (name : UnitName) → IsPlain (name_text name)
name_plain units.WattHour = record { passed = refl }
name_plain _ = record { passed = refl }

-- ---- values

two_plain : (n : ℕ) → IsPlain (two_digits n)
unfolding two_digits
two_plain n = number_plain (n / 10 % 10) ⌢ number_plain (n % 10)

four_plain : (n : ℕ) → IsPlain (four_digits n)
unfolding four_digits
four_plain n = two_plain (n / 100) ⌢ two_plain n

day_plain : (year month day : ℕ) → IsPlain (day_text year month day)
unfolding day_text
day_plain year month day = search (literal, two_plain, four_plain, ◌⌢◌) depth 7

time_plain : (hour minute : ℕ) → IsPlain (time_text hour minute)
unfolding time_text
time_plain hour minute = search (literal, two_plain, ◌⌢◌) depth 7

marked_plain : {sign : List ℕ} → IsPlain sign → (holds : Bool) → IsPlain (marked sign holds)
marked_plain h true = h
marked_plain h false = literal [] refl

pub value_plain : (v : Value) → IsPlain (value_text v)
value_plain (values.Whole n) = signed_plain n
value_plain _ = search (literal, day_plain, time_plain, marked_plain, ◌⌢◌)
