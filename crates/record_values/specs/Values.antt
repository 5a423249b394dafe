-- The value of a record (EN 13757-3, annex A: types A, B, F and G, and the data behind an LVAR).
use Rattle.std.specs.Prelude.{ℕ, ◌+◌, ◌-◌, ◌*◌, ◌/◌, ◌%◌, ◌^◌, Bool, ◌&&◌, List, [], ◌∷◌, length, take, drop, Option, Some, None, ℤ, pos, neg_ℤ, ◌-ℤ◌, nat_lt, nat_le, ◌==◌, if◌then◌else◌, slice_index}
use Rattle.std.specs.List.{flat_map, list_all}
use Rattle.dif_vif.specs.declared.span.RecordSpan.{RecordSpan}
use Rattle.dif_vif.specs.Numbers.{low_first}
use Rattle.record_values.specs.declared.units.Quantity.{Quantity}
use Rattle.record_values.specs.declared.units.Quantity.TheVariants.{Date, DateTime, Manufacturer, Unknown}
use Rattle.record_values.specs.declared.values.Value.{Value}
use Rattle.record_values.specs.declared.values.Value.TheVariants as values
use Rattle.record_values.specs.declared.values.Reading.{Reading}
use Rattle.record_values.specs.declared.values.Reading.TheVariants as readings
use Rattle.record_values.specs.Units.{unit}

-- ---- whole numbers

-- Type B: two's complement, the low byte first. The upper half of the numbers of so many bytes is negative.
abbrev pub signed_of : List ℕ → ℤ
signed_of sent =
    if nat_lt (2 * low_first 256 sent) (256 ^ length sent)
    then pos (low_first 256 sent)
    else (pos (low_first 256 sent) -ℤ pos (256 ^ length sent))

-- ---- decimal digits

-- two digits in each byte, all from the lowest on
abbrev pub digits_of : List ℕ → List ℕ
digits_of sent = flat_map (λ byte. byte % 16 ∷ byte / 16 ∷ []) sent

-- the number of the digits; none where one of them is above 9
abbrev pub decimal_of : List ℕ → Option ℕ
decimal_of digits = if list_all (λ digit. nat_le digit 9) digits then Some (low_first 10 digits) else None

-- a number, or raw data where the digits are none
abbrev pub positive : Option ℕ → Value
positive (Some number) = values.Whole (pos number)
positive None = values.Raw

abbrev pub negative : Option ℕ → Value
negative (Some number) = values.Whole (neg_ℤ (pos number))
negative None = values.Raw

-- Type A: a top digit F says that the other digits are a negative number.
abbrev pub bcd_value : List ℕ → Value
bcd_value sent =
    if slice_index (digits_of sent) (2 * length sent - 1) == 15
    then negative (decimal_of (take (2 * length sent - 1) (digits_of sent)))
    else positive (decimal_of (digits_of sent))

-- ---- days and moments

-- the bits of a word from one on
abbrev pub bits : ℕ → ℕ → ℕ → ℕ
bits word from count = word / 2 ^ from % 2 ^ count

-- Without hundreds the years up to 80 are those from 2000 on.
abbrev pub year_of : ℕ → ℕ → ℕ
year_of hundreds year = if hundreds == 0 && nat_le year 80 then 2000 + year else 1900 + 100 * hundreds + year

abbrev pub is_day : ℕ → ℕ → ℕ → Bool
is_day year month day = nat_le year 99 && (nat_le 1 month && (nat_le month 12 && (nat_le 1 day && nat_le day 31)))

-- Type G: a day in 16 bits.
abbrev pub day_value : ℕ → Value
day_value word =
    let day = bits word 0 5 in
    let month = bits word 8 4 in
    let year = bits word 5 3 + 8 * bits word 12 4 in
    if is_day year month day then values.Day (year_of 0 year) month day else values.Raw

-- Type F: a minute in 32 bits, with marks for a time that is invalid and for summer time.
abbrev pub moment_value : ℕ → Value
moment_value word =
    let minute = bits word 0 6 in
    let invalid = bits word 7 1 == 1 in
    let hour = bits word 8 5 in
    let hundreds = bits word 13 2 in
    let summer = bits word 15 1 == 1 in
    let day = bits word 16 5 in
    let month = bits word 24 4 in
    let year = bits word 21 3 + 8 * bits word 28 4 in
    if is_day year month day && (nat_le hour 23 && nat_le minute 59)
    then values.Moment (year_of hundreds year) month day hour minute invalid summer
    else values.Raw

-- ---- the value of a record

-- Data that are not read, if there are any.
abbrev pub unread : List ℕ → Value
unread sent = if length sent == 0 then values.None else values.Raw

-- the value by a data field
abbrev pub field_value : ℕ → List ℕ → Value
field_value field sent =
    if field == 0 then values.None else
    (if field == 5 then values.Raw else
    (if nat_le field 7 then values.Whole (signed_of sent) else
    bcd_value sent))

-- the value by an LVAR
abbrev pub lvar_value : ℕ → List ℕ → Value
lvar_value lvar sent =
    if nat_lt lvar 0xc0 then values.Text else
    (if nat_lt lvar 0xd0 then positive (decimal_of (digits_of sent)) else
    (if nat_lt lvar 0xe0 then negative (decimal_of (digits_of sent)) else
    values.Whole (signed_of sent)))

abbrev pub number_value : ℕ → Option ℕ → List ℕ → Value
number_value field None sent = field_value field sent
number_value field (Some lvar) sent = lvar_value lvar sent

-- how the data of a quantity are read
abbrev pub reading_of : Quantity → Reading
reading_of Unknown = readings.Unread
reading_of Manufacturer = readings.Unread
reading_of Date = readings.Day
reading_of DateTime = readings.Moment
reading_of _ = readings.Number

-- A day has two bytes, a moment four; data of other fields are not read as such.
abbrev pub value_as : Reading → ℕ → Option ℕ → List ℕ → Value
value_as readings.Unread field lvar sent = unread sent
value_as readings.Day field lvar sent = if field == 2 then day_value (low_first 256 sent) else unread sent
value_as readings.Moment field lvar sent = if field == 4 then moment_value (low_first 256 sent) else unread sent
value_as readings.Number field lvar sent = number_value field lvar sent

-- the data bytes of a span
abbrev pub data_of : List ℕ → RecordSpan → List ℕ
data_of bytes span = take span.data_len (drop span.data_at bytes)

-- the value of a span
abbrev pub value : List ℕ → RecordSpan → Value
value bytes span = value_as (reading_of (unit bytes span).quantity) (span.dif % 16) span.lvar (data_of bytes span)
