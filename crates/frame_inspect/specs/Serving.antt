-- Words of private contracts: what a slot answered, and what is put of it.
use Rattle.std.specs.Prelude.{ℕ, List, [], codes, Option}
use Rattle.paper.specs.Pieces.{text_if}
use Rattle.meter_slots.specs.declared.entry.Outcome.{Outcome}
use Rattle.meter_slots.specs.declared.entry.Outcome.TheVariants.{Stored, PartKept, Refused}
use Rattle.meter_slots.specs.declared.reading.Reading.{Reading}
use Rattle.frame_inspect.specs.declared.serving.Answer.{Answer}
use Rattle.frame_inspect.specs.declared.serving.Answer.TheVariants as answers
use Rattle.frame_inspect.specs.RecordLines.{records_text}
use Rattle.frame_inspect.specs.Below.{refused_line, no_key_line}

abbrev pub reading_text : Reading → List ℕ
reading_text r = records_text r.payload

-- what a slot answered, and the reading that it stored
abbrev pub served_text : Outcome → Option Reading → List ℕ
served_text (Stored counter confirmed sent) reading = text_if reading_text reading
served_text PartKept reading = codes "  part\n"
served_text (Refused reason) reading = refused_line reason
served_text _ reading = []

abbrev pub answer_text : Answer → List ℕ
answer_text answers.Nothing = []
answer_text (answers.NoKey a) = no_key_line a
answer_text (answers.Slot s) = served_text s.outcome s.reading
