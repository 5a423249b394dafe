-- A feed: what its source and its sinks showed before and after it, and what is promised of it.
use Rattle.std.specs.Prelude.{ℕ, ◌≡◌, ◌⊎◌, ◌==◌, ◌<◌, ◌-◌, ◌^◌, Bool, true, false, List, [], ◌++◌, length, IsTrue, if◌then◌else◌}
use Rattle.outer_io.specs.Shown.{Change, SourceShown, SinkShown, ReadFailed, WriteFailed, LosesNothing}
use Rattle.line_teller.specs.declared.ending.LinesEnd.{LinesEnd}
use Rattle.line_teller.specs.declared.ending.LinesEnd.TheVariants as ends
use Rattle.line_teller.specs.Ending.{EndsText, IsNoted, is_whole}
use Rattle.line_feed.specs.Streams.{EndsStream}
use Rattle.line_feed.specs.declared.printings.Printing.{Printing}
use Rattle.line_feed.specs.declared.status.FeedStatus.{FeedStatus}
use Rattle.line_feed.specs.declared.status.FeedStatus.TheVariants as statuses
use Rattle.line_feed.specs.Feeding.{Fed, fresh, AreFed, noted, fed_behind}
use Rattle.line_feed.specs.Notes.{ending_text}

-- the program's exit status
abbrev pub code_of : FeedStatus → ℕ
code_of statuses.Done = 0
code_of statuses.LeftOut = 1
code_of statuses.Read = 5
code_of statuses.Write = 7
code_of statuses.Cut = 8
code_of statuses.Memory = 10

-- the status of lines that ended so, of which so many weren't taken
abbrev pub status_of : LinesEnd → ℕ → FeedStatus
status_of ends.Done left_out = if left_out == 0 then statuses.Done else statuses.LeftOut
status_of ends.Read left_out = statuses.Read
status_of ends.Cut left_out = statuses.Cut
status_of ends.Write left_out = statuses.Write
status_of ends.Memory left_out = statuses.Memory

-- ---- what is noted

abbrev pub ending_of : Fed → List ℕ
ending_of f = ending_text f.taken f.left_out

-- the lines that aren't taken and the first whose time lacks a zone, and how many are taken and how many aren't
abbrev pub notes_of : Printing → List (List ℕ) → List ℕ
notes_of printing lines = noted (fresh printing) 1 lines ++ ending_of (fed_behind (fresh printing) lines)

-- ---- what a feed shows

pub record Run : Type 0 where
  pub printing : Printing
  -- whether contracts know the bytes of the source, and of the two sinks
  pub input_tells : Bool
  pub out_tells : Bool
  pub notes_tell : Bool
  pub input : Change SourceShown
  pub out : Change SinkShown
  pub notes : Change SinkShown
  pub status : FeedStatus

-- ---- what is promised

-- whether all lines of the input were fed
abbrev pub feeds_all : FeedStatus → Bool
feeds_all statuses.Done = true
feeds_all statuses.LeftOut = true
feeds_all _ = false

-- nothing stands in the way
pub record IsUnhindered (run : Run) : Type 0 where
  pub within : length (run.input.before.taken ++ run.input.before.left) < 2 ^ 64 - 1
  pub read : ReadFailed run.input → ⊥
  pub written : WriteFailed run.out → ⊥

-- Lines of the input were fed: all of them, or those that `EndsStream` says of this end. What is printed for them stands behind what was
-- written before, or a front of it where not all could be written; and what is noted of them stands on the other sink.
pub record IsFed (run : Run) (end : LinesEnd) : Type 0 where
  pub lines : List (List ℕ)
  pub text : List ℕ
  pub lines_are : EndsStream end run.input.now.taken run.input.now.left lines
  pub fed : AreFed run.printing lines text
  pub written : IsTrue run.out_tells → EndsText end text run.out
  pub noted : IsTrue (is_whole end) → IsTrue run.notes_tell → IsNoted (notes_of run.printing lines) run.notes
  pub status : IsTrue (is_whole end) → run.status ≡ status_of end ((fed_behind (fresh run.printing) lines).left_out)

pub record IsRun (run : Run) : Type 0 where
  -- how the lines ended, which the status says
  pub end : LinesEnd
  pub left_out : ℕ
  pub status : run.status ≡ status_of end left_out
  pub fed : IsTrue run.input_tells → IsFed run end
  -- a failed read and a failed write are the causes of their ends; want of memory is free
  pub read : end ≡ ends.Read → ReadFailed run.input
  pub write : end ≡ ends.Write → WriteFailed run.out
  -- where nothing stands in the way all lines are fed, unless there is no memory
  pub complete : IsTrue run.input_tells → IsUnhindered run → IsTrue (feeds_all run.status) ⊎ (run.status ≡ statuses.Memory)
  -- whatever happens, no byte of the input is lost
  pub no_loss : IsTrue run.input_tells → LosesNothing run.input

-- ---- words of private contracts

-- what is noted behind lines that ended so
abbrev pub end_notes : LinesEnd → Fed → List ℕ
end_notes end f = if is_whole end then ending_of f else []
