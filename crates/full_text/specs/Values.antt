-- The text of a value.
use Rattle.std.specs.Prelude.{ℕ, Bool, ◌&&◌, not, nat_le, ◌==◌, List, [], ◌∷◌, ◌++◌, reverse, codes, Option, Some, None, ℤ, ◌+ℤ◌, option_map, if◌then◌else◌}
use Rattle.std.specs.List.{flat_map}
use Rattle.hex.specs.Hex.{encode_lower}
use Rattle.paper.specs.Pieces.{labelled_bytes}
use Rattle.record_text.specs.Values.{two_digits, four_digits, marked}
use Rattle.full_records.specs.declared.moments.Day.{Day}
use Rattle.full_records.specs.declared.moments.TimeOfDay.{TimeOfDay}
use Rattle.full_records.specs.declared.moments.Moment.{Moment}
use Rattle.full_records.specs.declared.moments.LongMoment.{LongMoment}
use Rattle.full_records.specs.declared.values.FullValue.{FullValue}
use Rattle.full_records.specs.declared.values.FullValue.TheVariants as values
use Rattle.full_text.specs.declared.backwards.ByteForm.{ByteForm}
use Rattle.full_text.specs.declared.backwards.ByteForm.TheVariants as forms
use Rattle.full_text.specs.declared.reals.Decimal.{Decimal}
use Rattle.full_text.specs.Decimals.{decimal_text}
use Rattle.full_text.specs.Reals.{exponent_bits, fraction_bits, is_negative, real_decimal}

-- ---- bytes, the last one first

-- a character that stands in JSON and between commas as it is
abbrev pub is_plain : ℕ → Bool
is_plain byte =
    nat_le 32 byte && nat_le byte 126 && not (byte == 34) && not (byte == 92) && not (byte == 44) && not (byte == 37)

-- any other one by its two digits behind a percent sign
abbrev pub character_text : ℕ → List ℕ
character_text byte = if is_plain byte then byte ∷ [] else labelled_bytes (codes "%") (byte ∷ [])

abbrev pub byte_text : ByteForm → ℕ → List ℕ
byte_text forms.Digits byte = encode_lower (byte ∷ [])
byte_text forms.Character byte = character_text byte

abbrev pub backwards : ByteForm → List ℕ → List ℕ
backwards form sent = flat_map (byte_text form) (reverse sent)

-- ---- dates and times

-- a part of a date or a time, or a star for every one
abbrev pub part_text : Option ℕ → List ℕ
part_text None = codes "*"
part_text (Some number) = two_digits number

abbrev pub year_text : Option ℕ → List ℕ
year_text None = codes "*"
year_text (Some year) = four_digits year

-- YYYY-MM-DD
unfoldable pub day_text : Day → List ℕ
day_text d = year_text d.year ++ codes "-" ++ part_text d.month ++ codes "-" ++ part_text d.day

-- HH:MM
unfoldable pub minute_text : Option ℕ → Option ℕ → List ℕ
minute_text hour minute = part_text hour ++ codes ":" ++ part_text minute

-- HH:MM:SS
unfoldable pub time_text : TimeOfDay → List ℕ
time_text t = minute_text t.hour t.minute ++ codes ":" ++ part_text t.second

-- that the meter marks the time as invalid, and that it is summer time
unfoldable pub marks_text : Bool → Bool → List ℕ
marks_text invalid summer = marked (codes "!") invalid ++ marked (codes "+") summer

unfoldable pub moment_text : Moment → List ℕ
moment_text m = day_text m.day ++ codes "T" ++ minute_text m.hour m.minute ++ marks_text m.invalid m.summer

unfoldable pub long_moment_text : LongMoment → List ℕ
long_moment_text m = day_text m.day ++ codes "T" ++ time_text m.time ++ marks_text m.invalid m.summer

-- ---- values

-- ten to a power, behind a decimal
abbrev pub scaled_by : ℤ → Decimal → Decimal
scaled_by power d = record { whole = d.whole; exponent = power +ℤ d.exponent }

-- a real number times ten to a power, exactly
abbrev pub real_times : ℕ → ℤ → Option Decimal
real_times bits power = option_map (scaled_by power) (real_decimal bits)

-- what a real number is that isn't told by its digits
abbrev pub real_word : ℕ → List ℕ
real_word word =
    if not (exponent_bits word == 255) then codes "raw" else
    (if not (fraction_bits word == 0) then codes "NaN" else
    (if is_negative word then codes "-inf" else
    codes "inf"))

abbrev pub decimal_or : Option Decimal → List ℕ → List ℕ
decimal_or (Some d) word = decimal_text d.whole d.exponent
decimal_or None word = word

-- a value of these data
abbrev pub full_value_text : FullValue → List ℕ → List ℕ
full_value_text values.Nothing sent = codes "-"
full_value_text (values.Number whole exponent) sent = decimal_text whole exponent
full_value_text (values.Real bits exponent) sent = decimal_or (real_times bits exponent) (real_word bits)
full_value_text (values.Bits bits) sent = codes "0x" ++ backwards forms.Digits sent
full_value_text (values.Day day) sent = day_text day
full_value_text (values.Time time) sent = time_text time
full_value_text (values.Moment moment) sent = moment_text moment
full_value_text (values.LongMoment moment) sent = long_moment_text moment
full_value_text values.Text sent = backwards forms.Character sent
full_value_text values.Withheld sent = codes "withheld"
full_value_text values.Raw sent = codes "raw"
