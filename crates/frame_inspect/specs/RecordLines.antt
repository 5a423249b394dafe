-- The data records of a payload, a line each.
use Rattle.std.specs.Prelude.{ℕ, ◌+◌, zero, suc, List, [], ◌++◌, length, codes, Option, Some, None, Result, Ok, Err}
use Rattle.paper.specs.Pieces.{labelled}
use Rattle.dif_vif.specs.declared.fault.RecordFault.{RecordFault}
use Rattle.dif_vif.specs.declared.span.RecordSpan.{RecordSpan}
use Rattle.full_spans.specs.Walk.{next_full_of}
use Rattle.record_text.specs.Lines.{bytes_at, fault_text}
use Rattle.record_text.specs.Values.{hex_text}
use Rattle.full_records.specs.declared.quantities.FullUnitName.{FullUnitName}
use Rattle.full_records.specs.declared.readings.DataType.{DataType}
use Rattle.full_records.specs.declared.readings.DataType.TheVariants as types
use Rattle.full_records.specs.declared.values.FullValue.{FullValue}
use Rattle.full_records.specs.Measures.{measure}
use Rattle.full_records.specs.Records.{full_data_type, full_qualifiers, full_reading, full_unset, full_value}
use Rattle.full_text.specs.Values.{full_value_text}
use Rattle.frame_inspect.specs.Names.{name_text, unit_words}

-- ---- one record

-- the data as they are seen: those that nobody is to see aren't
abbrev pub seen : DataType → List ℕ → List ℕ
seen types.Withheld sent = []
seen type sent = sent

-- the number of the record in its payload, and its data
unfoldable pub place_words : ℕ → List ℕ → List ℕ
place_words number shown = labelled (codes "  ") number ++ codes " " ++ hex_text shown ++ codes " "

-- the value of the data that were sent, and its unit
unfoldable pub value_words : FullValue → FullUnitName → List ℕ → List ℕ
value_words v u sent = codes ": " ++ full_value_text v sent ++ unit_words u ++ codes "\n"

-- what a data record of these bytes says, by the whole standard
unfoldable pub record_line : List ℕ → ℕ × RecordSpan → List ℕ
record_line bytes r =
    let sent = bytes_at bytes r.1.data_at r.1.data_len in
    place_words r.0 (seen (full_data_type bytes r.1) sent)
    ++ name_text (measure bytes r.1).quantity (full_qualifiers bytes r.1) (full_unset bytes r.1) r.1
    ++ value_words (full_value bytes r.1) (full_reading bytes r.1).unit sent

-- the fault that ends the records
unfoldable pub fault_line : RecordFault → List ℕ
fault_line fault = codes "  fault " ++ fault_text fault ++ codes "\n"

-- ---- all of them

-- what comes next: a line and those behind it, or a fault, which ends them, or nothing
abbrev pub next_text : (ℕ → List ℕ) → List ℕ → ℕ → Result (Option RecordSpan) RecordFault → List ℕ
next_text later payload number (Ok (Some span)) = record_line payload (number, span) ++ later span.end
next_text later payload number (Ok None) = []
next_text later payload number (Err fault) = fault_line fault

-- the lines from a place on, of which the first has this number, so many at most
unfoldable pub records_from : ℕ → List ℕ → ℕ → ℕ → List ℕ
records_from zero payload number from = []
records_from (suc n) payload number from = next_text (records_from n payload (number + 1)) payload number (next_full_of payload from)

-- the lines of a payload: each record has a byte of its own
abbrev pub records_text : List ℕ → List ℕ
records_text payload = records_from (length payload) payload 1 0
