-- The text of a value.
use Rattle.std.specs.Prelude.{ℕ, ◌/◌, ◌%◌, Bool, List, [], ◌∷◌, ◌++◌, codes, if◌then◌else◌}
use Rattle.std.specs.Fmt.{decimal, signed_decimal}
use Rattle.hex.specs.Hex.{encode_lower}
use Rattle.record_values.specs.declared.values.Value.{Value}
use Rattle.record_values.specs.declared.values.Value.TheVariants as values

-- bytes in hexadecimal, two digits each, or a dash for none
abbrev pub hex_text : List ℕ → List ℕ
hex_text [] = codes "-"
hex_text (byte ∷ rest) = encode_lower (byte ∷ rest)

-- the last two digits of a number
unfoldable pub two_digits : ℕ → List ℕ
two_digits n = decimal (n / 10 % 10) ++ decimal (n % 10)

-- the last four
unfoldable pub four_digits : ℕ → List ℕ
four_digits n = two_digits (n / 100) ++ two_digits n

-- YYYY-MM-DD
unfoldable pub day_text : ℕ → ℕ → ℕ → List ℕ
day_text year month day = four_digits year ++ codes "-" ++ two_digits month ++ codes "-" ++ two_digits day

-- THH:MM
unfoldable pub time_text : ℕ → ℕ → List ℕ
time_text hour minute = codes "T" ++ two_digits hour ++ codes ":" ++ two_digits minute

-- a sign, where something holds
abbrev pub marked : List ℕ → Bool → List ℕ
marked sign holds = if holds then sign else []

-- a value; a text is told by its bytes alone
abbrev pub value_text : Value → List ℕ
value_text values.None = codes "-"
value_text (values.Whole n) = signed_decimal n
value_text values.Raw = codes "raw"
value_text values.Text = codes "text"
value_text (values.Day year month day) = day_text year month day
value_text (values.Moment year month day hour minute invalid summer) =
    day_text year month day ++ time_text hour minute ++ marked (codes "!") invalid ++ marked (codes "+") summer
