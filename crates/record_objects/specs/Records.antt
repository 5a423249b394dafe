-- What a data record says, as members by their names.
use Rattle.std.specs.Prelude.{ℕ, Bool, true, false, List, [], ◌∷◌, ◌++◌, length, map, codes, if◌then◌else◌, Option, Some, None, option_map, Result, Ok, Err, zero, suc}
use Rattle.std.specs.Fmt.{decimal}
use Rattle.std.specs.List.{enumerate_from}
use Rattle.hex.specs.Hex.{encode_lower}
use Rattle.json.specs.Json.{Json, null, number, string, array, object}
use Rattle.paper.specs.Pieces.{labelled_bytes}
use Rattle.dif_vif.specs.declared.span.RecordSpan.{RecordSpan}
use Rattle.dif_vif.specs.declared.fault.RecordFault.{RecordFault}
use Rattle.full_spans.specs.Listing.{full_spans_of}
use Rattle.full_spans.specs.Walk.{next_full_of}
use Rattle.record_values.specs.declared.units.Quantity.{Quantity}
use Rattle.record_values.specs.declared.units.Quantity.TheVariants as profile
use Rattle.record_values.specs.Units.{unit}
use Rattle.record_text.specs.Words.{function_text, quantity_text}
use Rattle.record_text.specs.Lines.{bytes_at}
use Rattle.full_records.specs.declared.quantities.FullQuantity.{FullQuantity}
use Rattle.full_records.specs.declared.quantities.FullQuantity.TheVariants as quantities
use Rattle.full_records.specs.declared.makers_own.PlainValue.{PlainValue}
use Rattle.full_records.specs.declared.readings.DataType.{DataType}
use Rattle.full_records.specs.declared.readings.DataType.TheVariants as types
use Rattle.full_records.specs.Measures.{measure}
use Rattle.full_records.specs.Records.{full_data_type, full_plain, full_qualifiers, full_reading, full_unset, full_value}
use Rattle.full_text.specs.declared.reals.Decimal.{Decimal}
use Rattle.full_text.specs.Decimals.{decimal_text}
use Rattle.full_text.specs.Said.{counted, qualifiers_text}
use Rattle.full_text.specs.Values.{full_value_text}
use Rattle.full_text.specs.Words.{full_quantity_text, full_unit_text, type_text}
use Rattle.record_objects.specs.Trees.{object_of, items_of}

-- ---- values

abbrev pub count : ℕ → Json
count n = number (decimal n)

-- the number that a value counts, exactly, or null for none
abbrev pub counted_tree : Option Decimal → Json
counted_tree None = null
counted_tree (Some d) = number (decimal_text d.whole d.exponent)

-- the function, or that these are manufacturer data, with their DIF
abbrev pub function_words : RecordSpan → List ℕ
function_words span = if span.maker then labelled_bytes (codes "maker ") (span.dif ∷ []) else function_text span.function

-- whether the whole standard names a quantity that the profile, which the report goes by, doesn't
abbrev pub is_renamed : Quantity → FullQuantity → Bool
is_renamed profile.Unknown (quantities.Profile profile.Unknown) = false
is_renamed profile.Unknown quantity = true
is_renamed named quantity = false

-- the profile's word where it is another one
abbrev pub profile_text : Quantity → FullQuantity → Option (List ℕ)
profile_text named quantity = if is_renamed named quantity then Some (quantity_text named) else None

-- what the VIF alone makes of data that are the manufacturer's own: the value and its unit
abbrev pub plain_text : List ℕ → PlainValue → List ℕ
plain_text sent p = full_value_text p.value sent ++ codes " " ++ full_unit_text p.unit

-- the data as they are shown: those that nobody is to see aren't
abbrev pub shown : DataType → List ℕ → List ℕ
shown types.Withheld sent = []
shown type sent = sent

-- ---- a record

-- what a record says, in words; its number in its step counts from 1
pub record Said : Type 0 where
  pub number : ℕ
  pub function : List ℕ
  pub storage : ℕ
  pub tariff : ℕ
  pub subunit : ℕ
  pub quantity : List ℕ
  pub unit : List ℕ
  pub value : List ℕ
  pub counted : Option Decimal
  pub qualifiers : List ℕ
  pub type : List ℕ
  pub profile : Option (List ℕ)
  pub plain : Option (List ℕ)
  pub modifiers : List ℕ
  pub raw : List ℕ

-- what a record of these bytes says, by the whole standard
unfoldable pub said : ℕ → List ℕ → RecordSpan → Said
said n bytes span =
    let quantity = (measure bytes span).quantity in
    let type = full_data_type bytes span in
    let unset = full_unset bytes span in
    let sent = bytes_at bytes span.data_at span.data_len in
    let u = unit bytes span in
    record {
      number = n;
      function = function_words span;
      storage = span.storage;
      tariff = span.tariff;
      subunit = span.subunit;
      quantity = full_quantity_text quantity;
      unit = full_unit_text (full_reading bytes span).unit;
      value = full_value_text (full_value bytes span) sent;
      counted = counted (full_value bytes span) unset;
      qualifiers = qualifiers_text (full_qualifiers bytes span) unset;
      type = type_text type;
      profile = profile_text u.quantity quantity;
      plain = option_map (plain_text sent) (full_plain bytes span);
      modifiers = encode_lower (bytes_at bytes u.modifiers_at u.modifiers);
      raw = encode_lower (shown type sent);
    }

-- its members in their order; the profile's word and the plain value are members of some records alone
abbrev pub said_members : Said → List (List ℕ × Option Json)
said_members s =
    (codes "record", Some (count s.number))
    ∷ (codes "function", Some (string s.function))
    ∷ (codes "storage", Some (count s.storage))
    ∷ (codes "tariff", Some (count s.tariff))
    ∷ (codes "subunit", Some (count s.subunit))
    ∷ (codes "quantity", Some (string s.quantity))
    ∷ (codes "unit", Some (string s.unit))
    ∷ (codes "value", Some (string s.value))
    ∷ (codes "number", Some (counted_tree s.counted))
    ∷ (codes "qualifiers", Some (string s.qualifiers))
    ∷ (codes "type", Some (string s.type))
    ∷ (codes "profile_quantity", option_map string s.profile)
    ∷ (codes "as_plain", option_map string s.plain)
    ∷ (codes "modifiers", Some (string s.modifiers))
    ∷ (codes "raw", Some (string s.raw))
    ∷ []

abbrev pub record_members : ℕ → List ℕ → RecordSpan → List (List ℕ × Option Json)
record_members n bytes span = said_members (said n bytes span)

abbrev pub record_object : ℕ → List ℕ → RecordSpan → Json
record_object n bytes span = object_of (record_members n bytes span)

-- ---- the records of a payload

-- all records, up to the first fault
abbrev pub record_objects : List ℕ → Json
record_objects payload = array (items_of (map (λ r. record_object r.0 payload r.1) (enumerate_from 1 (full_spans_of payload))))

abbrev pub next_fault : (ℕ → Option RecordFault) → Result (Option RecordSpan) RecordFault → Option RecordFault
next_fault rest (Ok (Some span)) = rest span.end
next_fault rest (Ok None) = None
next_fault rest (Err fault) = Some fault

-- the first fault from a place on, behind so many records at most
unfoldable pub fault_from : ℕ → List ℕ → ℕ → Option RecordFault
fault_from zero payload from = None
fault_from (suc n) payload from = next_fault (fault_from n payload) (next_full_of payload from)

-- the fault that ends the records of a payload, if one does
abbrev pub fault_of : List ℕ → Option RecordFault
fault_of payload = fault_from (length payload) payload 0
