-- A run over a report: what its source and its sinks showed before and after it, and what is promised of it.
use Rattle.std.specs.Prelude.{ℕ, ◌≡◌, ◌⊎◌, ◌==◌, ◌&&◌, ◌||◌, not, Bool, true, false, List, [], ◌++◌, IsTrue, if◌then◌else◌}
use Rattle.outer_io.specs.Bytes.{AppendsFront}
use Rattle.outer_io.specs.Shown.{Change, SourceShown, SinkShown, ReadFailed, WriteFailed, LosesNothing, IsReadOut}
use Rattle.reading_list.specs.Limits.{is_over, whole_lines, all_lines}
use Rattle.line_teller.specs.declared.ending.LinesEnd.{LinesEnd}
use Rattle.line_teller.specs.declared.ending.LinesEnd.TheVariants as ends
use Rattle.reading_list.specs.declared.forms.Form.{Form}
use Rattle.reading_list.specs.declared.lister.Lister.{Lister}
use Rattle.reading_list.specs.declared.status.ListStatus.{ListStatus}
use Rattle.reading_list.specs.declared.status.ListStatus.TheVariants as statuses
use Rattle.reading_list.specs.RecordLines.{head_text}
use Rattle.reading_list.specs.Notes.{ending_text}
use Rattle.reading_list.specs.Listing.{fresh, listed, noted, lister_behind}

-- the program's exit status
abbrev pub code_of : ListStatus → ℕ
code_of statuses.Done = 0
code_of statuses.Noted = 1
code_of statuses.Read = 5
code_of statuses.Write = 7
code_of statuses.Cut = 8
code_of statuses.Memory = 10

-- ---- what is printed

-- the list of the readings in lines of a report
abbrev pub list_text : Form → List (List ℕ) → List ℕ
list_text form lines = head_text form ++ listed (fresh form) lines

-- what is noted of the lines of a report and behind them; of a report that wasn't read to its end it isn't said that it is cut off
abbrev pub report_notes : Form → Bool → List (List ℕ) → List ℕ
report_notes form read_out lines =
    let behind = lister_behind (fresh form) lines in
    noted 1 (fresh form) lines ++ ending_text (not read_out || behind.whole) behind.noted

-- the report ends with its line `end`, and nothing is noted of its lines
abbrev pub is_faultless : Lister → Bool
is_faultless l = l.whole && l.noted == 0

-- the status where all lines were listed
abbrev pub listed_status : Form → List (List ℕ) → ListStatus
listed_status form lines = if is_faultless (lister_behind (fresh form) lines) then statuses.Done else statuses.Noted

-- the status of lines that ended so, of a report that is faultless or isn't
abbrev pub status_of : LinesEnd → Bool → ListStatus
status_of ends.Done faultless = if faultless then statuses.Done else statuses.Noted
status_of ends.Read faultless = statuses.Read
status_of ends.Cut faultless = statuses.Cut
status_of ends.Write faultless = statuses.Write
status_of ends.Memory faultless = statuses.Memory

-- ---- what a run shows

pub record Run : Type 0 where
  pub form : Form
  -- whether contracts know the bytes of the source, and of the two sinks
  pub report_tells : Bool
  pub list_tells : Bool
  pub notes_tell : Bool
  pub report : Change SourceShown
  pub out : Change SinkShown
  pub notes : Change SinkShown
  pub status : ListStatus

-- ---- what is promised

-- whether all lines of the report were listed
abbrev pub lists_all : ListStatus → Bool
lists_all statuses.Done = true
lists_all statuses.Noted = true
lists_all _ = false

-- the report was read to its end: all its readings are listed, all else is noted, and the status says whether there is a note
pub record IsListed (run : Run) : Type 0 where
  pub read : IsReadOut run.report
  pub within : is_over run.report.before.left ≡ false
  pub listed : IsTrue run.list_tells → run.out.now.written ≡ list_text run.form (all_lines run.report.before.left)
  pub noted : IsTrue run.notes_tell → (WriteFailed run.notes → ⊥)
      → run.notes.now.written ≡ report_notes run.form true (all_lines run.report.before.left)
  pub status : run.status ≡ listed_status run.form (all_lines run.report.before.left)

-- what is listed where the report couldn't be read to its end: the readings of the whole lines taken; or a front of the list
abbrev pub IsListedSoFar : ListStatus → Form → (taken written : List ℕ) → Type 0
IsListedSoFar statuses.Read form taken written = written ≡ list_text form (whole_lines taken)
IsListedSoFar statuses.Cut form taken written = written ≡ list_text form (whole_lines taken)
IsListedSoFar statuses.Write form taken written = AppendsFront (list_text form (all_lines taken)) [] written
IsListedSoFar statuses.Memory form taken written = AppendsFront (list_text form (all_lines taken)) [] written
IsListedSoFar _ form taken written = written ≡ list_text form (all_lines taken)

-- the cause of a status
abbrev pub IsCausedBy : Run → ListStatus → Type 0
IsCausedBy run statuses.Read = ReadFailed run.report
IsCausedBy run statuses.Cut = IsTrue run.report_tells → is_over run.report.before.left ≡ true
IsCausedBy run statuses.Write = WriteFailed run.out
IsCausedBy run _ = Unit {0}

-- nothing stands in the way
pub record IsUnhindered (run : Run) : Type 0 where
  pub within : is_over run.report.before.left ≡ false
  pub read : ReadFailed run.report → ⊥
  pub written : WriteFailed run.out → ⊥

pub record IsRun (run : Run) : Type 0 where
  -- after statuses 0 and 1 all lines are listed and noted
  pub listed : IsTrue (lists_all run.status) → IsTrue run.report_tells → IsListed run
  -- after each status the list is there as far as it says
  pub so_far : IsTrue run.report_tells → IsTrue run.list_tells → IsListedSoFar run.status run.form run.report.now.taken run.out.now.written
  -- each status has its cause, and where nothing stands in the way all is listed, unless there is no memory
  pub caused : IsCausedBy run run.status
  pub complete : IsTrue run.report_tells → IsUnhindered run → IsTrue (lists_all run.status) ⊎ (run.status ≡ statuses.Memory)
  -- whatever happens, no byte of the report is lost
  pub no_loss : IsTrue run.report_tells → LosesNothing run.report
