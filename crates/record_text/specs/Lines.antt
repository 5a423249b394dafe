-- The line of a data record, of manufacturer data and of a fault.
use Rattle.std.specs.Prelude.{ℕ, List, [], ◌∷◌, ◌++◌, take, drop, codes, if◌then◌else◌}
use Rattle.paper.specs.Pieces.{labelled, labelled_bytes}
use Rattle.dif_vif.specs.declared.fault.RecordFault.{RecordFault}
use Rattle.dif_vif.specs.declared.fault.RecordFault.TheVariants.{Truncated, TooManyExtensions, Lvar, Selection, Special}
use Rattle.dif_vif.specs.declared.span.RecordSpan.{RecordSpan}
use Rattle.record_values.specs.declared.units.Unit.{Unit}
use Rattle.record_values.specs.declared.values.Value.{Value}
use Rattle.record_values.specs.Units.{unit}
use Rattle.record_values.specs.Values.{value}
use Rattle.record_text.specs.Words.{function_text}
use Rattle.record_text.specs.Pieces.{register_text, unit_text}
use Rattle.record_text.specs.Values.{hex_text, value_text}

-- so many bytes from a place on
abbrev pub bytes_at : List ℕ → ℕ → ℕ → List ℕ
bytes_at bytes place count = take count (drop place bytes)

-- what the DIF and its extensions say: the function and the register
unfoldable pub place_text : RecordSpan → List ℕ
place_text span = function_text span.function ++ register_text span.storage span.tariff span.subunit

-- what the VIF says: the quantity and the unit
abbrev pub measure_text : Unit → List ℕ
measure_text u = unit_text u.quantity u.name u.exponent

-- the modifiers, the value and the data as sent
unfoldable pub data_text : List ℕ → Value → List ℕ → List ℕ
data_text modifiers v sent = codes " " ++ hex_text modifiers ++ codes " " ++ value_text v ++ codes " " ++ hex_text sent

unfoldable pub record_line : List ℕ → RecordSpan → List ℕ
record_line bytes span =
    let u = unit bytes span in
    let modifiers = bytes_at bytes u.modifiers_at u.modifiers in
    let sent = bytes_at bytes span.data_at span.data_len in
    codes "record " ++ place_text span ++ measure_text u ++ data_text modifiers (value bytes span) sent ++ codes "\n"

unfoldable pub maker_line : List ℕ → RecordSpan → List ℕ
maker_line bytes span =
    labelled_bytes (codes "maker ") (span.dif ∷ []) ++ codes " " ++ hex_text (bytes_at bytes span.data_at span.data_len) ++ codes "\n"

abbrev pub span_line : List ℕ → RecordSpan → List ℕ
span_line bytes span = if span.maker then maker_line bytes span else record_line bytes span

abbrev pub fault_text : RecordFault → List ℕ
fault_text (Truncated place) = labelled (codes "truncated ") place
fault_text (TooManyExtensions place) = labelled (codes "extensions ") place
fault_text (Lvar lvar) = labelled_bytes (codes "lvar ") (lvar ∷ [])
fault_text (Selection place) = labelled (codes "selection ") place
fault_text (Special dif) = labelled_bytes (codes "special ") (dif ∷ [])

unfoldable pub fault_line : RecordFault → List ℕ
fault_line fault = codes "fault " ++ fault_text fault ++ codes "\n"
