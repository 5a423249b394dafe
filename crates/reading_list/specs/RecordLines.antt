-- The line of a data record of a stored step.
use Rattle.std.specs.Prelude.{ℕ, Bool, true, false, List, [], ◌∷◌, ◌++◌, length, codes, if◌then◌else◌, Option, Some, None, Result, Ok, Err, zero, suc}
use Rattle.std.specs.List.{flat_map, enumerate_from}
use Rattle.hex.specs.Hex.{encode_lower}
use Rattle.paper.specs.Pieces.{labelled, labelled_bytes, text_if}
use Rattle.meter_address.specs.declared.address.Address.{Address}
use Rattle.meter_address.specs.Address.{bytes_of}
use Rattle.meter_label.specs.Label.{label_of}
use Rattle.meter_label.specs.Texts.{label_text}
use Rattle.dif_vif.specs.declared.span.RecordSpan.{RecordSpan}
use Rattle.dif_vif.specs.declared.fault.RecordFault.{RecordFault}
use Rattle.full_spans.specs.Listing.{full_spans_of}
use Rattle.full_spans.specs.Walk.{next_full_of}
use Rattle.record_values.specs.declared.units.Quantity.{Quantity}
use Rattle.record_values.specs.declared.units.Quantity.TheVariants as profile
use Rattle.record_values.specs.Units.{unit}
use Rattle.record_text.specs.Words.{function_text, quantity_text}
use Rattle.record_text.specs.Lines.{bytes_at}
use Rattle.full_records.specs.declared.quantities.FullQuantity.{FullQuantity}
use Rattle.full_records.specs.declared.quantities.FullQuantity.TheVariants as quantities
use Rattle.full_records.specs.declared.quantities.FullUnitName.{FullUnitName}
use Rattle.full_records.specs.declared.makers_own.PlainValue.{PlainValue}
use Rattle.full_records.specs.declared.qualifiers.Qualifier.{Qualifier}
use Rattle.full_records.specs.declared.readings.DataType.{DataType}
use Rattle.full_records.specs.declared.readings.DataType.TheVariants as types
use Rattle.full_records.specs.declared.values.FullValue.{FullValue}
use Rattle.full_records.specs.Measures.{measure}
use Rattle.full_records.specs.Records.{full_data_type, full_plain, full_qualifiers, full_reading, full_unset, full_value}
use Rattle.full_text.specs.declared.reals.Decimal.{Decimal}
use Rattle.full_text.specs.Decimals.{decimal_text}
use Rattle.full_text.specs.Said.{counted, qualifiers_text}
use Rattle.full_text.specs.Values.{full_value_text}
use Rattle.full_text.specs.Words.{full_quantity_text, full_unit_text, type_text}
use Rattle.reading_list.specs.declared.forms.Form.{Form}
use Rattle.reading_list.specs.declared.forms.Form.TheVariants as forms
use Rattle.reading_list.specs.declared.forms.Member.{Member}
use Rattle.reading_list.specs.declared.forms.Member.TheVariants as members
use Rattle.reading_list.specs.Said.{StoredStep}

-- ---- the two forms: a JSON object (RFC 8259), and comma separated values (RFC 4180)

-- what stands in front of a member's value
abbrev pub before : Form → Member → List ℕ
before forms.Json members.Address = codes "{\"address\":\""
before forms.Json members.Label = codes "\",\"label\":\""
before forms.Json members.Receiver = codes "\",\"receiver\":"
before forms.Json members.Line = codes ",\"line\":"
before forms.Json members.Moment = codes ",\"moment\":"
before forms.Json members.Counter = codes ",\"counter\":"
before forms.Json members.Record = codes ",\"record\":"
before forms.Json members.Function = codes ",\"function\":\""
before forms.Json members.Storage = codes "\",\"storage\":"
before forms.Json members.Tariff = codes ",\"tariff\":"
before forms.Json members.Subunit = codes ",\"subunit\":"
before forms.Json members.Quantity = codes ",\"quantity\":\""
before forms.Json members.Unit = codes "\",\"unit\":\""
before forms.Json members.Value = codes "\",\"value\":\""
before forms.Json members.Number = codes "\",\"number\":"
before forms.Json members.Qualifiers = codes ",\"qualifiers\":\""
before forms.Json members.Type = codes "\",\"type\":\""
before forms.Json members.ProfileQuantity = codes "\",\"profile_quantity\":\""
before forms.Json members.AsPlain = codes "\",\"as_plain\":\""
before forms.Json members.Modifiers = codes "\",\"modifiers\":\""
before forms.Json members.Raw = codes "\",\"raw\":\""
before forms.Csv members.Address = []
before forms.Csv _ = codes ","

-- what stands for a number that there isn't, and for a member that a line lacks
abbrev pub no_number : Form → List ℕ
no_number forms.Json = codes "null"
no_number forms.Csv = []

abbrev pub no_member : Form → List ℕ
no_member forms.Json = []
no_member forms.Csv = codes ","

-- what ends a line
abbrev pub closing : Form → List ℕ
closing forms.Json = codes "\"}\n"
closing forms.Csv = codes "\n"

-- what stands in front of all lines: in comma separated values the names of the members
abbrev pub head_text : Form → List ℕ
head_text forms.Json = []
head_text forms.Csv =
    codes "address,label,receiver,line,moment,counter,record,function,storage,tariff,subunit,quantity,unit,value,number,qualifiers,type,profile_quantity,as_plain,modifiers,raw\n"

-- ---- the values of members

-- the meter: its address, and its label, which is empty where the maker has no three letters
unfoldable pub meter_members : Form → Address → List ℕ
meter_members form a =
    before form members.Address ++ encode_lower (bytes_of a) ++ before form members.Label ++ text_if label_text (label_of a)

-- the step
unfoldable pub step_members : Form → StoredStep → List ℕ
step_members form s =
    labelled (before form members.Receiver) s.receiver ++ labelled (before form members.Line) s.line
    ++ labelled (before form members.Moment) s.moment ++ labelled (before form members.Counter) s.counter

-- the function, or that these are manufacturer data, with their DIF
abbrev pub function_words : RecordSpan → List ℕ
function_words span = if span.maker then labelled_bytes (codes "maker ") (span.dif ∷ []) else function_text span.function

-- the number of the record in its step, from 1, its function and its register
unfoldable pub register_members : Form → ℕ → RecordSpan → List ℕ
register_members form number span =
    labelled (before form members.Record) number ++ before form members.Function ++ function_words span
    ++ labelled (before form members.Storage) span.storage ++ labelled (before form members.Tariff) span.tariff
    ++ labelled (before form members.Subunit) span.subunit

-- what is measured, and in which unit
unfoldable pub measure_members : Form → FullQuantity → FullUnitName → List ℕ
measure_members form quantity u =
    before form members.Quantity ++ full_quantity_text quantity ++ before form members.Unit ++ full_unit_text u

abbrev pub number_text : Form → Option Decimal → List ℕ
number_text form None = no_number form
number_text form (Some d) = decimal_text d.whole d.exponent

-- the value as exact text, and the number that it counts
unfoldable pub value_members : Form → FullValue → Bool → List ℕ → List ℕ
value_members form v unset sent =
    before form members.Value ++ full_value_text v sent ++ before form members.Number ++ number_text form (counted v unset)

-- what the further VIFEs say, and the type of the data
unfoldable pub kind_members : Form → List Qualifier → Bool → DataType → List ℕ
kind_members form qualifiers unset type =
    before form members.Qualifiers ++ qualifiers_text qualifiers unset ++ before form members.Type ++ type_text type

-- whether the whole standard names a quantity that the profile, which the report goes by, doesn't
abbrev pub is_renamed : Quantity → FullQuantity → Bool
is_renamed profile.Unknown (quantities.Profile profile.Unknown) = false
is_renamed profile.Unknown quantity = true
is_renamed named quantity = false

-- the profile's word where it is another one
unfoldable pub profile_words : Form → Quantity → List ℕ
profile_words form quantity = before form members.ProfileQuantity ++ quantity_text quantity

abbrev pub profile_member : Form → Quantity → FullQuantity → List ℕ
profile_member form named quantity = if is_renamed named quantity then profile_words form named else no_member form

-- what the VIF alone makes of data that are the manufacturer's own: the value and its unit
unfoldable pub plain_words : Form → PlainValue → List ℕ → List ℕ
plain_words form p sent = before form members.AsPlain ++ full_value_text p.value sent ++ codes " " ++ full_unit_text p.unit

abbrev pub plain_member : Form → Option PlainValue → List ℕ → List ℕ
plain_member form None sent = no_member form
plain_member form (Some p) sent = plain_words form p sent

-- the data as they are shown: those that nobody is to see aren't
abbrev pub shown : DataType → List ℕ → List ℕ
shown types.Withheld sent = []
shown type sent = sent

-- the modifiers and the data as sent
unfoldable pub byte_members : Form → List ℕ → List ℕ → List ℕ
byte_members form modifiers sent =
    before form members.Modifiers ++ encode_lower modifiers ++ before form members.Raw ++ encode_lower sent ++ closing form

-- ---- the lines

-- what a data record of these bytes says, by the whole standard
unfoldable pub read_members : Form → List ℕ → RecordSpan → List ℕ
read_members form bytes span =
    let quantity = (measure bytes span).quantity in
    let sent = bytes_at bytes span.data_at span.data_len in
    let u = unit bytes span in
    measure_members form quantity (full_reading bytes span).unit ++ value_members form (full_value bytes span) (full_unset bytes span) sent
    ++ kind_members form (full_qualifiers bytes span) (full_unset bytes span) (full_data_type bytes span)
    ++ profile_member form u.quantity quantity ++ plain_member form (full_plain bytes span) sent
    ++ byte_members form (bytes_at bytes u.modifiers_at u.modifiers) (shown (full_data_type bytes span) sent)

-- the line of a record of a meter's step
unfoldable pub record_line : Form → Address → StoredStep → ℕ × RecordSpan → List ℕ
record_line form a s r =
    meter_members form a ++ step_members form s ++ register_members form r.0 r.1 ++ read_members form s.payload r.1

-- a line for each record of a meter's step, up to the first fault
abbrev pub records_text : Form → Address → StoredStep → List ℕ
records_text form a s = flat_map (record_line form a s) (enumerate_from 1 (full_spans_of s.payload))

-- ---- the fault that ends the records

abbrev pub next_fault : (ℕ → Option RecordFault) → Result (Option RecordSpan) RecordFault → Option RecordFault
next_fault rest (Ok (Some span)) = rest span.end
next_fault rest (Ok None) = None
next_fault rest (Err fault) = Some fault

-- the first fault from a place on, behind so many records at most
unfoldable pub fault_from : ℕ → List ℕ → ℕ → Option RecordFault
fault_from zero payload from = None
fault_from (suc n) payload from = next_fault (fault_from n payload) (next_full_of payload from)

-- the fault that ends the records of a payload, if one does
abbrev pub fault_of : List ℕ → Option RecordFault
fault_of payload = fault_from (length payload) payload 0
