-- The last readings of the meters, as JSON (RFC 8259).
use Rattle.std.specs.Prelude.{⊤, ℕ, ◌^◌, ◌<◌, ◌==◌, Bool, true, false, List, [], ◌∷◌, ◌++◌, length, map, codes, if◌then◌else◌}
use Rattle.std.specs.Prelude.{Option, Some, None, IfSome, option_map, Result, Ok, Err}
use Rattle.hex.specs.Hex.{encode_lower}
use Rattle.serde_json.specs.Data.{Data, null, boolean, number, string, array, object, unsigned, Members, no_members, member}
use Rattle.serde_json.specs.Find.{of_integer}
use Rattle.serde_json.specs.View.{items_of}
use Rattle.serde_json.specs.Written.{compact_text}
use Rattle.meter_address.specs.declared.address.Address.{Address}
use Rattle.meter_address.specs.declared.commission.Mode.{Mode}
use Rattle.meter_address.specs.declared.commission.Mode.TheVariants.{Five, Seven}
use Rattle.meter_address.specs.Address.{text_of}
use Rattle.dif_vif.specs.declared.fault.RecordFault.{RecordFault}
use Rattle.dif_vif.specs.declared.fault.RecordFault.TheVariants as faults
use Rattle.dif_vif.specs.declared.span.RecordSpan.{RecordSpan}
use Rattle.dif_vif.specs.Listing.{spans_from}
use Rattle.dif_vif.specs.Reading.{next_of}
use Rattle.record_values.specs.declared.units.Unit.{Unit}
use Rattle.record_values.specs.declared.values.Value.{Value}
use Rattle.record_values.specs.Units.{unit}
use Rattle.record_values.specs.Values.{value}
use Rattle.record_text.specs.Words.{function_text, quantity_text, name_text}
use Rattle.record_text.specs.Lines.{bytes_at, fault_text}
use Rattle.record_text.specs.Values.{value_text}
use Rattle.meter_slots.specs.declared.reading.Reading.{Reading}
use Rattle.meter_slots.specs.Journal.{SlotView}
use Rattle.meter_slots.specs.Resuming.{last_known}

-- ---- the records of a payload that are listed

-- the first of them, 256 at most, up to the first fault
abbrev pub listed : List ℕ → List RecordSpan
listed payload = spans_from 256 payload 0

-- the place behind some records that begin from another place on
abbrev pub place_behind : ℕ → List RecordSpan → ℕ
place_behind from [] = from
place_behind from (span ∷ later) = place_behind span.end later

-- what comes behind them: a further record, a fault, or nothing but fillers
abbrev pub next_listed : List ℕ → Result (Option RecordSpan) RecordFault
next_listed payload = next_of payload (place_behind 0 (listed payload))

abbrev pub is_full : List RecordSpan → Bool
is_full spans = length spans == 256

-- the fault that ends them before there are 256
abbrev pub fault_behind : Bool → Result (Option RecordSpan) RecordFault → Option RecordFault
fault_behind false (Err fault) = Some fault
fault_behind _ _ = None

-- whether a record or a fault follows 256 of them
abbrev pub more_behind : Bool → Result (Option RecordSpan) RecordFault → Bool
more_behind false next = false
more_behind true (Ok None) = false
more_behind true _ = true

-- ---- trees

-- an object of these members, which stand in the order of their names
abbrev pub members : List (List ℕ × Data) → Members
members [] = no_members
members (m ∷ later) = member m.0 m.1 (members later)

abbrev pub list_tree : List Data → Data
list_tree trees = array (items_of trees)

abbrev pub or_null : Option Data → Data
or_null None = null
or_null (Some tree) = tree

abbrev pub hex_tree : List ℕ → Data
hex_tree bytes = string (encode_lower bytes)

-- ---- a record

-- what a data record of this unit and value says, as the report has it, and its data as sent
abbrev pub record_members : List ℕ → RecordSpan → Unit → Value → List (List ℕ × Data)
record_members payload span u v =
    (codes "exponent", number (of_integer u.exponent))
    ∷ (codes "function", string (function_text span.function))
    ∷ (codes "modifiers", hex_tree (bytes_at payload u.modifiers_at u.modifiers))
    ∷ (codes "quantity", string (quantity_text u.quantity))
    ∷ (codes "raw", hex_tree (bytes_at payload span.data_at span.data_len))
    ∷ (codes "storage", number (unsigned span.storage))
    ∷ (codes "subunit", number (unsigned span.subunit))
    ∷ (codes "tariff", number (unsigned span.tariff))
    ∷ (codes "unit", string (name_text u.name))
    ∷ (codes "value", string (value_text v))
    ∷ []

abbrev pub record_tree : List ℕ → RecordSpan → Data
record_tree payload span = object (members (record_members payload span (unit payload span) (value payload span)))

-- manufacturer data: the DIF, and the data as sent
abbrev pub maker_members : List ℕ → RecordSpan → List (List ℕ × Data)
maker_members payload span =
    (codes "maker", hex_tree (span.dif ∷ []))
    ∷ (codes "raw", hex_tree (bytes_at payload span.data_at span.data_len))
    ∷ []

abbrev pub maker_tree : List ℕ → RecordSpan → Data
maker_tree payload span = object (members (maker_members payload span))

abbrev pub span_tree : List ℕ → RecordSpan → Data
span_tree payload span = if span.maker then maker_tree payload span else record_tree payload span

-- ---- a meter

abbrev pub mode_number : Mode → ℕ
mode_number Five = 5
mode_number Seven = 7

-- the payload of a reading, or no bytes where there is no reading
abbrev pub payload_of : Option Reading → List ℕ
payload_of None = []
payload_of (Some reading) = reading.payload

-- a meter with its last reading, and the records of the payload of that
abbrev pub meter_members : Address → Mode → Option Reading → List ℕ → List (List ℕ × Data)
meter_members address mode last payload =
    let spans = listed payload in
    let next = next_listed payload in
    (codes "address", string (text_of address))
    ∷ (codes "at", or_null (option_map (λ r. number (unsigned r.at)) last))
    ∷ (codes "counter", or_null (option_map (λ r. number (unsigned r.counter)) last))
    ∷ (codes "fault", or_null (option_map (λ fault. string (fault_text fault)) (fault_behind (is_full spans) next)))
    ∷ (codes "mode", number (unsigned (mode_number mode)))
    ∷ (codes "more", boolean (more_behind (is_full spans) next))
    ∷ (codes "records", list_tree (map (span_tree payload) spans))
    ∷ []

abbrev pub meter_tree : SlotView → Data
meter_tree b =
    let last = last_known b.start b.journal in
    object (members (meter_members b.start.address b.start.mode last (payload_of last)))

-- ---- all meters

-- the meters in the order of the roster
abbrev pub readings_tree : List SlotView → Data
readings_tree slots = object (members ((codes "meters", list_tree (map meter_tree slots)) ∷ []))

-- the tree's compact text, and a newline
unfoldable pub readings_text : List SlotView → List ℕ
readings_text slots = compact_text (readings_tree slots) ++ codes "\n"

-- ---- for private clauses

-- the numbers of a reading are of 64 and of 32 bits
abbrev pub IsNumbered : Reading → Type 0
IsNumbered reading = (reading.at < 2 ^ 64) × (reading.counter < 2 ^ 32)

-- those of the last reading are, if there is one
abbrev pub LastIsNumbered : SlotView → Type 0
LastIsNumbered b = IfSome (last_known b.start b.journal) IsNumbered

-- the byte which a fault names is one
abbrev pub NamesByte : RecordFault → Type 0
NamesByte (faults.Lvar lvar) = lvar < 256
NamesByte (faults.Special dif) = dif < 256
NamesByte _ = ⊤
