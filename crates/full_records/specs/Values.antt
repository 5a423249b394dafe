-- The value of a record (EN 13757-3, annex A).
use Rattle.std.specs.Prelude.{ℕ, ◌*◌, ◌^◌, Bool, false, not, ◌&&◌, List, length, Option, Some, None, ℤ, nat_lt, nat_le, ◌==◌, if◌then◌else◌}
use Rattle.std.specs.List.{list_all}
use Rattle.dif_vif.specs.Numbers.{low_first}
use Rattle.record_values.specs.declared.values.Value.{Value}
use Rattle.record_values.specs.declared.values.Value.TheVariants as profile
use Rattle.record_values.specs.Values.{number_value}
use Rattle.full_records.specs.declared.readings.DataType.{DataType}
use Rattle.full_records.specs.declared.readings.DataType.TheVariants as types
use Rattle.full_records.specs.declared.values.FullValue.{FullValue}
use Rattle.full_records.specs.declared.values.FullValue.TheVariants as values
use Rattle.full_records.specs.Moments.{day_in, time_in, moment_in, long_moment_in}

-- data that are not read, if there are any
abbrev pub unread : List ℕ → FullValue
unread sent = if length sent == 0 then values.Nothing else values.Raw

-- data that nobody is to see, if there are any
abbrev pub withheld : List ℕ → FullValue
withheld sent = if length sent == 0 then values.Nothing else values.Withheld

-- Types A and B, and texts: the number is the profile's, with the record's power of ten.
abbrev pub numbered : ℤ → Value → FullValue
numbered exponent profile.None = values.Nothing
numbered exponent (profile.Whole whole) = values.Number whole exponent
numbered exponent profile.Text = values.Text
numbered exponent _ = values.Raw

-- type D: the low byte first
abbrev pub bits_value : List ℕ → FullValue
bits_value sent = if nat_le (length sent) 15 then values.Bits (low_first 256 sent) else unread sent

-- type H: four bytes, the low one first
abbrev pub real_value : ℤ → List ℕ → FullValue
real_value exponent sent = if length sent == 4 then values.Real (low_first 256 sent) exponent else unread sent

-- a date or a time, or raw data where there is no such one
abbrev pub found : {A : Type 0} → (A → FullValue) → Option A → FullValue
found value (Some x) = value x
found value None = values.Raw

-- types G, J, F and I, of two, three, four and six bytes
abbrev pub day_value : List ℕ → FullValue
day_value sent = if length sent == 2 then found values.Day (day_in (low_first 256 sent) 0 0) else unread sent

abbrev pub time_value : List ℕ → FullValue
time_value sent = if length sent == 3 then found values.Time (time_in (low_first 256 sent)) else unread sent

abbrev pub moment_value : List ℕ → FullValue
moment_value sent = if length sent == 4 then found values.Moment (moment_in (low_first 256 sent)) else unread sent

abbrev pub long_moment_value : List ℕ → FullValue
long_moment_value sent = if length sent == 6 then found values.LongMoment (long_moment_in (low_first 256 sent)) else unread sent

-- The value of data of a type, before any factor or constant. The fields of types K, L and M are not taken apart.
abbrev pub value_as : DataType → ℤ → ℕ → Option ℕ → List ℕ → FullValue
value_as types.Digits exponent field lvar sent = numbered exponent (number_value field lvar sent)
value_as types.Integer exponent field lvar sent = numbered exponent (number_value field lvar sent)
value_as types.Text exponent field lvar sent = numbered exponent (number_value field lvar sent)
value_as types.BitArray exponent field lvar sent = bits_value sent
value_as types.Real exponent field lvar sent = real_value exponent sent
value_as types.Date exponent field lvar sent = day_value sent
value_as types.TimeOfDay exponent field lvar sent = time_value sent
value_as types.DateTime exponent field lvar sent = moment_value sent
value_as types.DateTimeSeconds exponent field lvar sent = long_moment_value sent
value_as types.Withheld exponent field lvar sent = withheld sent
value_as _ exponent field lvar sent = unread sent

-- whether an LVAR announces a long number, which isn't read
abbrev pub is_long : Option ℕ → Bool
is_long None = false
is_long (Some lvar) = not (nat_lt lvar 0xf0)

-- data of a long number: kept as bytes, unless nobody is to see them
abbrev pub long_value : DataType → List ℕ → FullValue
long_value types.Withheld sent = withheld sent
long_value type sent = unread sent

-- ---- data that stand for no value

-- all bits are set, of one byte at least
abbrev pub all_ones : List ℕ → Bool
all_ones sent = nat_lt 0 (length sent) && list_all (λ byte. byte == 0xff) sent

-- the lowest number of its width: 80 in the last byte and 00 in the others
abbrev pub is_lowest : List ℕ → Bool
is_lowest sent = nat_le (length sent) 15 && (2 * low_first 256 sent == 256 ^ length sent)

abbrev pub is_unset : DataType → List ℕ → Bool
is_unset types.Integer sent = is_lowest sent
is_unset types.Digits sent = all_ones sent
is_unset types.Date sent = all_ones sent
is_unset types.TimeOfDay sent = all_ones sent
is_unset types.DateTime sent = all_ones sent
is_unset types.DateTimeSeconds sent = all_ones sent
is_unset _ sent = false
