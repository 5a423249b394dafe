-- The lines that are listed of a report, and what is noted of its lines.
use Rattle.std.specs.Prelude.{ℕ, ◌≡◌, ◌+◌, Bool, true, false, List, [], ◌∷◌, ◌++◌, Option, Some, None, option_map, Result, Ok, Err, if◌then◌else◌}
use Rattle.outer_io.specs.Faults.{next_count}
use Rattle.paper.specs.Pieces.{text_if}
use Rattle.meter_address.specs.declared.address.Address.{Address}
use Rattle.reading_list.specs.declared.said.LineFault.{LineFault}
use Rattle.reading_list.specs.declared.said.LineFault.TheVariants as faults
use Rattle.reading_list.specs.declared.notes.LineNote.{LineNote}
use Rattle.reading_list.specs.declared.notes.LineNote.TheVariants as line_notes
use Rattle.reading_list.specs.declared.forms.Form.{Form}
use Rattle.reading_list.specs.declared.lister.Lister.{Lister}
use Rattle.reading_list.specs.Said.{Said, StoredStep, meter, stored, finished, other, said_of}
use Rattle.reading_list.specs.RecordLines.{records_text, fault_of}
use Rattle.reading_list.specs.Notes.{note_text}

-- ---- one line, below those that left the lister as it is

-- the records of a stored step whose meter is known
abbrev pub step_text : Form → Option Address → StoredStep → List ℕ
step_text form None s = []
step_text form (Some a) s = records_text form a s

-- what is listed for a line
abbrev pub text_of : Lister → Result Said LineFault → List ℕ
text_of l (Ok (stored s)) = step_text l.form l.meter s
text_of l _ = []

-- what is wrong with a stored step: it has no meter, or a fault ends its records
abbrev pub step_note : Option Address → StoredStep → Option LineNote
step_note None s = Some line_notes.NoMeter
step_note (Some a) s = option_map line_notes.Records (fault_of s.payload)

-- what is wrong with a line
abbrev pub note_of : Lister → Result Said LineFault → Option LineNote
note_of l (Err fault) = Some (line_notes.Unread fault)
note_of l (Ok (stored s)) = step_note l.meter s
note_of l (Ok said) = None

-- whether a line that can't be read is a step, and so begins no other meter's part
abbrev pub is_step : LineFault → Bool
is_step faults.Fields = true
is_step faults.Number = true
is_step faults.Payload = true
is_step _ = false

-- the meter whose part the next line stands in, if it is known
abbrev pub meter_after : Option Address → Result Said LineFault → Option Address
meter_after before (Ok (meter a)) = Some a
meter_after before (Ok (stored s)) = before
meter_after before (Ok finished) = None
meter_after before (Ok other) = before
meter_after before (Err fault) = if is_step fault then before else None

-- whether a line ends the report
abbrev pub ends_report : Result Said LineFault → Bool
ends_report (Ok finished) = true
ends_report _ = false

-- one line more is noted, where there is a note of it
abbrev pub count_after : ℕ → Option LineNote → ℕ
count_after count None = count
count_after count (Some note) = next_count count

-- the lister after a line
abbrev pub lister_after : Lister → Result Said LineFault → Lister
lister_after l said = record {
  form = l.form;
  meter = meter_after l.meter said;
  whole = ends_report said;
  noted = count_after l.noted (note_of l said);
}

-- ---- all lines

-- what is listed for lines, one after another
abbrev pub listed : Lister → List (List ℕ) → List ℕ
listed l [] = []
listed l (line ∷ lines) = text_of l (said_of line) ++ listed (lister_after l (said_of line)) lines

-- what is noted of lines, the first of which has this number
abbrev pub noted : ℕ → Lister → List (List ℕ) → List ℕ
noted number l [] = []
noted number l (line ∷ lines) =
    text_if (note_text number) (note_of l (said_of line)) ++ noted (number + 1) (lister_after l (said_of line)) lines

-- the lister behind lines
abbrev pub lister_behind : Lister → List (List ℕ) → Lister
lister_behind l [] = l
lister_behind l (line ∷ lines) = lister_behind (lister_after l (said_of line)) lines

-- before the first line
abbrev pub fresh : Form → Lister
fresh form = record { form = form; meter = None; whole = false; noted = 0 }

-- ---- words of private contracts

-- a line is listed: its text, its note, and the lister behind it
pub record ListsLine (old : Lister) (number : ℕ) (line text note : List ℕ) (new : Lister) : Type 0 where
  pub text_is : text ≡ text_of old (said_of line)
  pub note_is : note ≡ text_if (note_text number) (note_of old (said_of line))
  pub new_is : new ≡ lister_after old (said_of line)
