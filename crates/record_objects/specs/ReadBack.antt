-- The laws that a reader of JSON gets the trees of records back from their texts.
use Rattle.std.specs.Prelude.{ℕ, ◌^◌, ◌<◌, List, length}
use Rattle.dif_vif.specs.declared.span.RecordSpan.{RecordSpan}
use Rattle.full_spans.specs.Long.{IsFullSpan}
use Rattle.record_objects.specs.Trees.{IsReadBack}
use Rattle.record_objects.specs.Records.{record_object, record_objects}

-- every record, whatever its number of 64 bits
abbrev pub RecordsAreReadBack : Type 0
RecordsAreReadBack =
    (n : ℕ) (bytes : List ℕ) (span : RecordSpan) → n < 2 ^ 64 → IsFullSpan bytes span → IsReadBack (record_object n bytes span)

-- the records of every payload
abbrev pub PayloadsAreReadBack : Type 0
PayloadsAreReadBack = (payload : List ℕ) → length payload < 2 ^ 63 → IsReadBack (record_objects payload)
