-- What a data record says, by the whole standard (EN 13757-3, clause 6 and annex A).
use Rattle.std.specs.Prelude.{◌≡◌, ℕ, ◌%◌, Bool, List, take, drop, Option, Some, None, ℤ, if◌then◌else◌}
use Rattle.dif_vif.specs.declared.span.RecordSpan.{RecordSpan}
use Rattle.record_values.specs.declared.values.Value.{Value}
use Rattle.record_values.specs.declared.values.Value.TheVariants as profile
use Rattle.record_values.specs.Values.{data_of}
use Rattle.full_records.specs.declared.qualifiers.Qualifier.{Qualifier}
use Rattle.full_records.specs.declared.readings.Reading.{Reading}
use Rattle.full_records.specs.declared.readings.DataType.{DataType}
use Rattle.full_records.specs.declared.values.FullValue.{FullValue}
use Rattle.full_records.specs.declared.values.FullValue.TheVariants as values
use Rattle.full_records.specs.declared.makers_own.PlainValue.{PlainValue}
use Rattle.full_records.specs.MakersOwn.{plain_behind}
use Rattle.full_records.specs.Measures.{code_behind, measure}
use Rattle.full_records.specs.Qualifiers.{first_place, qualifiers_from}
use Rattle.full_records.specs.Readings.{reading, reading_after, data_type}
use Rattle.full_records.specs.Values.{unread, is_long, long_value, value_as, is_unset}
use Rattle.full_records.specs.Powers.{value_after}

-- so many bytes from a place on
abbrev pub part : List ℕ → ℕ → ℕ → List ℕ
part bytes place count = take count (drop place bytes)

-- the VIFEs but the one that is part of the code
abbrev pub behind_code : Option ℕ → List ℕ → List ℕ
behind_code None vifes = vifes
behind_code (Some code) vifes = drop 1 vifes

abbrev pub further_vifes : List ℕ → RecordSpan → List ℕ
further_vifes bytes span = behind_code (code_behind bytes span) (part bytes span.vifes_at span.vifes)

abbrev pub full_qualifiers : List ℕ → RecordSpan → List Qualifier
full_qualifiers bytes span = qualifiers_from (first_place span.vif) (further_vifes bytes span)

-- how the data are read, by the quantity and then by each qualifier
abbrev pub full_reading : List ℕ → RecordSpan → Reading
full_reading bytes span = reading_after (reading (measure bytes span)) (full_qualifiers bytes span)

abbrev pub full_data_type : List ℕ → RecordSpan → DataType
full_data_type bytes span = data_type (full_reading bytes span).kind (span.dif % 16) span.lvar

-- the value of data of a type, before any factor; manufacturer data have no type
abbrev pub plain_value : List ℕ → RecordSpan → DataType → ℤ → FullValue
plain_value bytes span type exponent =
    if span.maker then unread (data_of bytes span) else
    (if is_long span.lvar then long_value type (data_of bytes span) else
    value_as type exponent (span.dif % 16) span.lvar (data_of bytes span))

-- the value behind all factors and constants
abbrev pub full_value : List ℕ → RecordSpan → FullValue
full_value bytes span =
    value_after (plain_value bytes span (full_data_type bytes span) (full_reading bytes span).exponent) (full_qualifiers bytes span)

abbrev pub full_unset : List ℕ → RecordSpan → Bool
full_unset bytes span = is_unset (full_data_type bytes span) (data_of bytes span)

-- ---- what the profile reads, and what the whole standard reads

-- the value before any qualifier
abbrev pub unqualified_value : List ℕ → RecordSpan → FullValue
unqualified_value bytes span =
    let r = reading (measure bytes span) in
    plain_value bytes span (data_type r.kind (span.dif % 16) span.lvar) r.exponent

-- That value, where a further VIFE says that the data are the manufacturer's own and there is something to tell of it. Where the profile names
-- the quantity, it is the number that the profile reads.
abbrev pub full_plain : List ℕ → RecordSpan → Option PlainValue
full_plain bytes span = plain_behind (full_qualifiers bytes span) (unqualified_value bytes span) (measure bytes span).unit

-- A number, a date or a text of the profile is the same one here, and a number has its power of ten. What the profile leaves raw may be read here.
abbrev pub Agrees : Value → ℤ → FullValue → Type 0
Agrees profile.None exponent v = v ≡ values.Nothing
Agrees (profile.Whole whole) exponent v = v ≡ values.Number whole exponent
Agrees profile.Raw exponent v = Unit {0}
Agrees profile.Text exponent v = v ≡ values.Text
Agrees (profile.Day year month day) exponent v =
    v ≡ values.Day (record { year = Some year; month = Some month; day = Some day })
Agrees (profile.Moment year month day hour minute invalid summer) exponent v =
    v ≡ values.Moment (record {
      day = record { year = Some year; month = Some month; day = Some day };
      hour = Some hour;
      minute = Some minute;
      invalid = invalid;
      summer = summer;
    })
