-- Words of private contracts: a record's text in either form, piece by piece.
use Rattle.std.specs.Prelude.{ℕ, Bool, List, [], ◌++◌, codes, nat_lt, if◌then◌else◌, Option, Some, None}
use Rattle.std.specs.List.{flat_map, enumerate_from}
use Rattle.hex.specs.Hex.{encode_lower}
use Rattle.paper.specs.Pieces.{labelled}
use Rattle.dif_vif.specs.declared.span.RecordSpan.{RecordSpan}
use Rattle.record_values.specs.declared.units.Quantity.{Quantity}
use Rattle.record_values.specs.Units.{unit}
use Rattle.record_text.specs.Words.{quantity_text}
use Rattle.record_text.specs.Lines.{bytes_at}
use Rattle.full_spans.specs.Listing.{full_spans_of}
use Rattle.full_records.specs.declared.quantities.FullQuantity.{FullQuantity}
use Rattle.full_records.specs.declared.quantities.FullUnitName.{FullUnitName}
use Rattle.full_records.specs.declared.makers_own.PlainValue.{PlainValue}
use Rattle.full_records.specs.declared.qualifiers.Qualifier.{Qualifier}
use Rattle.full_records.specs.declared.readings.DataType.{DataType}
use Rattle.full_records.specs.declared.values.FullValue.{FullValue}
use Rattle.full_records.specs.Measures.{measure}
use Rattle.full_records.specs.Records.{full_data_type, full_plain, full_qualifiers, full_reading, full_unset, full_value}
use Rattle.full_text.specs.declared.reals.Decimal.{Decimal}
use Rattle.full_text.specs.Decimals.{decimal_text}
use Rattle.full_text.specs.Said.{counted, qualifiers_text}
use Rattle.full_text.specs.Values.{full_value_text}
use Rattle.full_text.specs.Words.{full_quantity_text, full_unit_text, type_text}
use Rattle.record_objects.specs.declared.forms.Form.{Form}
use Rattle.record_objects.specs.declared.forms.Form.TheVariants as forms
use Rattle.record_objects.specs.declared.forms.Member.{Member}
use Rattle.record_objects.specs.declared.forms.Member.TheVariants as members
use Rattle.record_objects.specs.Trees.{inside}
use Rattle.record_objects.specs.Records.{function_words, is_renamed, record_members, shown}

-- what stands in front of a member's value
abbrev pub before : Form → Member → List ℕ
before forms.Json members.Record = codes "\"record\":"
before forms.Json members.Function = codes ",\"function\":\""
before forms.Json members.Storage = codes "\",\"storage\":"
before forms.Json members.Tariff = codes ",\"tariff\":"
before forms.Json members.Subunit = codes ",\"subunit\":"
before forms.Json members.Quantity = codes ",\"quantity\":\""
before forms.Json members.Unit = codes "\",\"unit\":\""
before forms.Json members.Value = codes "\",\"value\":\""
before forms.Json members.Number = codes "\",\"number\":"
before forms.Json members.Qualifiers = codes ",\"qualifiers\":\""
before forms.Json members.Type = codes "\",\"type\":\""
before forms.Json members.ProfileQuantity = codes "\",\"profile_quantity\":\""
before forms.Json members.AsPlain = codes "\",\"as_plain\":\""
before forms.Json members.Modifiers = codes "\",\"modifiers\":\""
before forms.Json members.Raw = codes "\",\"raw\":\""
before forms.Csv members.Record = []
before forms.Csv _ = codes ","

-- what stands for a number that there isn't, and for a member that a record lacks
abbrev pub no_number : Form → List ℕ
no_number forms.Json = codes "null"
no_number forms.Csv = []

abbrev pub no_member : Form → List ℕ
no_member forms.Json = []
no_member forms.Csv = codes ","

-- what ends the last member
abbrev pub closing : Form → List ℕ
closing forms.Json = codes "\""
closing forms.Csv = []

-- the number of the record in its step, its function and its register
unfoldable pub register_words : Form → ℕ → RecordSpan → List ℕ
register_words form number span =
    labelled (before form members.Record) number ++ before form members.Function ++ function_words span
    ++ labelled (before form members.Storage) span.storage ++ labelled (before form members.Tariff) span.tariff
    ++ labelled (before form members.Subunit) span.subunit

-- what is measured, and in which unit
unfoldable pub measure_words : Form → FullQuantity → FullUnitName → List ℕ
measure_words form quantity u =
    before form members.Quantity ++ full_quantity_text quantity ++ before form members.Unit ++ full_unit_text u

abbrev pub number_words : Form → Option Decimal → List ℕ
number_words form None = no_number form
number_words form (Some d) = decimal_text d.whole d.exponent

-- the value as exact text, and the number that it counts
unfoldable pub value_words : Form → FullValue → Bool → List ℕ → List ℕ
value_words form v unset sent =
    before form members.Value ++ full_value_text v sent ++ before form members.Number ++ number_words form (counted v unset)

-- what the further VIFEs say, and the type of the data
unfoldable pub kind_words : Form → List Qualifier → Bool → DataType → List ℕ
kind_words form qualifiers unset type =
    before form members.Qualifiers ++ qualifiers_text qualifiers unset ++ before form members.Type ++ type_text type

unfoldable pub named_words : Form → Quantity → List ℕ
named_words form quantity = before form members.ProfileQuantity ++ quantity_text quantity

abbrev pub profile_words : Form → Quantity → FullQuantity → List ℕ
profile_words form named quantity = if is_renamed named quantity then named_words form named else no_member form

unfoldable pub told_words : Form → PlainValue → List ℕ → List ℕ
told_words form p sent = before form members.AsPlain ++ full_value_text p.value sent ++ codes " " ++ full_unit_text p.unit

abbrev pub plain_words : Form → Option PlainValue → List ℕ → List ℕ
plain_words form None sent = no_member form
plain_words form (Some p) sent = told_words form p sent

-- the modifiers and the data as sent
unfoldable pub byte_words : Form → List ℕ → List ℕ → List ℕ
byte_words form modifiers sent =
    before form members.Modifiers ++ encode_lower modifiers ++ before form members.Raw ++ encode_lower sent ++ closing form

-- what a data record of these bytes says
unfoldable pub read_words : Form → List ℕ → RecordSpan → List ℕ
read_words form bytes span =
    let quantity = (measure bytes span).quantity in
    let sent = bytes_at bytes span.data_at span.data_len in
    let u = unit bytes span in
    measure_words form quantity (full_reading bytes span).unit ++ value_words form (full_value bytes span) (full_unset bytes span) sent
    ++ kind_words form (full_qualifiers bytes span) (full_unset bytes span) (full_data_type bytes span)
    ++ profile_words form u.quantity quantity ++ plain_words form (full_plain bytes span) sent
    ++ byte_words form (bytes_at bytes u.modifiers_at u.modifiers) (shown (full_data_type bytes span) sent)

-- a record in its step
unfoldable pub record_words : Form → ℕ → List ℕ → RecordSpan → List ℕ
record_words form number bytes span = register_words form number span ++ read_words form bytes span

-- ---- the items of an array

-- a comma in front of every record but the first
abbrev pub comma_before : ℕ → List ℕ
comma_before number = if nat_lt 1 number then codes "," else []

unfoldable pub item_words : List ℕ → ℕ × RecordSpan → List ℕ
item_words payload r = comma_before r.0 ++ codes "{" ++ inside (record_members r.0 payload r.1) ++ codes "}"

abbrev pub items_words : List ℕ → List ℕ
items_words payload = flat_map (item_words payload) (enumerate_from 1 (full_spans_of payload))
