-- The law that the JSON of a reading tells what the report lists of it.
use Rattle.std.specs.Prelude.{ℕ, ◌≡◌, Bool, List, [], ◌++◌, codes, Option, if◌then◌else◌}
use Rattle.std.specs.List.{flat_map}
use Rattle.paper.specs.Pieces.{text_if}
use Rattle.dif_vif.specs.declared.fault.RecordFault.{RecordFault}
use Rattle.dif_vif.specs.declared.span.RecordSpan.{RecordSpan}
use Rattle.record_text.specs.Lines.{span_line, fault_line}
use Rattle.record_text.specs.RecordText.{records_text}
use Rattle.report_text.specs.Readings.{listed, next_listed, is_full, fault_behind, more_behind}

-- the report's lines of some records, of the fault that ends them, and `more`
abbrev pub lines_of : List ℕ → List RecordSpan → Option RecordFault → Bool → List ℕ
lines_of payload spans fault more =
    flat_map (span_line payload) spans ++ (text_if fault_line fault ++ (if more then codes "more\n" else []))

abbrev pub JsonListsTheReport : Type 0
JsonListsTheReport = (payload : List ℕ) →
    let spans = listed payload in
    let next = next_listed payload in
    records_text payload ≡ lines_of payload spans (fault_behind (is_full spans) next) (more_behind (is_full spans) next)
