-- A run over a file of edits and questions: what its source and its sink showed before and after it, and what is promised of it.
use Rattle.std.specs.Prelude.{ℕ, ◌≡◌, ◌⊎◌, Bool, true, false, List, [], ◌∷◌, ◌++◌, None, IsTrue, IsSome}
use Rattle.outer_io.specs.Bytes.{AppendsFront}
use Rattle.outer_io.specs.Shown.{Change, SourceShown, SinkShown, ReadFailed, WriteFailed, LosesNothing, IsReadOut}
use Rattle.line_reader.specs.Lines.{is_over, whole_lines, all_lines}
use Rattle.line_teller.specs.declared.ending.LinesEnd.{LinesEnd}
use Rattle.line_teller.specs.declared.ending.LinesEnd.TheVariants as ends
use Rattle.usage_totals.specs.declared.status.TotalsStatus.{TotalsStatus}
use Rattle.usage_totals.specs.declared.status.TotalsStatus.TheVariants as statuses
use Rattle.usage_totals.specs.Words.{totals_asked, is_addressed}
use Rattle.usage_totals.specs.Texts.{answers}

-- the program's exit status
abbrev pub code_of : TotalsStatus → ℕ
code_of statuses.Done = 0
code_of statuses.Words = 2
code_of statuses.Read = 5
code_of statuses.Cut = 8
code_of statuses.Write = 7
code_of statuses.Memory = 10

pub record Run : Type 0 where
  -- whether contracts know the bytes of the source, and of the sink
  pub sources_tell : Bool
  pub sinks_tell : Bool
  pub words : List (List ℕ)
  pub edits : Change SourceShown
  -- the lines taken of the file
  pub lines : List (List ℕ)
  pub out : Change SinkShown
  pub status : TotalsStatus

-- what is printed for lines, the first of which finds no rows, with addresses or without
abbrev pub printed : Bool → List (List ℕ) → List ℕ
printed addressed lines = answers addressed [] lines

-- whether the words of a run ask for addresses
abbrev pub addresses_asked : List (List ℕ) → Bool
addresses_asked words = is_addressed (totals_asked words)

-- ---- what is promised

-- the file was read to its end, and the answers to all its lines are there
pub record IsDone (run : Run) : Type 0 where
  pub read : IsReadOut run.edits
  pub within : is_over run.edits.before.left ≡ false
  pub answered : IsTrue run.sinks_tell
      → run.out.now.written ≡ printed (addresses_asked run.words) (all_lines run.edits.before.left)

-- there was no memory for the last of the lines taken: the answers to those before it are there, and nothing of one to it
pub record IsAnsweredBefore (addressed : Bool) (lines : List (List ℕ)) (written : List ℕ) : Type 0 where
  pub before : List (List ℕ)
  pub last : List ℕ
  pub lines_are : lines ≡ before ++ last ∷ []
  pub answered : written ≡ printed addressed before

-- what is there, by the bytes and the lines taken of the file: after status 7 a front of the answers, and after 10 those to all lines
-- taken but the last
abbrev pub IsAnswered : (addressed : Bool) → TotalsStatus → (lines : List (List ℕ)) → (taken written : List ℕ) → Type 0
IsAnswered addressed statuses.Done lines taken written = written ≡ printed addressed (all_lines taken)
IsAnswered addressed statuses.Read lines taken written = written ≡ printed addressed (whole_lines taken)
IsAnswered addressed statuses.Cut lines taken written = written ≡ printed addressed (whole_lines taken)
IsAnswered addressed statuses.Write lines taken written = AppendsFront (printed addressed (all_lines taken)) [] written
IsAnswered addressed statuses.Memory lines taken written = IsAnsweredBefore addressed lines written
IsAnswered addressed statuses.Words lines taken written = written ≡ []

-- the cause of a status
abbrev pub IsCausedBy : Run → TotalsStatus → Type 0
IsCausedBy run statuses.Done = Unit {0}
IsCausedBy run statuses.Words = totals_asked run.words ≡ None
IsCausedBy run statuses.Read = ReadFailed run.edits
IsCausedBy run statuses.Cut = IsTrue run.sources_tell → is_over run.edits.before.left ≡ true
IsCausedBy run statuses.Write = WriteFailed run.out
IsCausedBy run statuses.Memory = Unit {0}

-- nothing stands in the way
pub record IsFaultless (run : Run) : Type 0 where
  pub words : IsSome (totals_asked run.words)
  pub within : is_over run.edits.before.left ≡ false
  pub read : ReadFailed run.edits → ⊥
  pub written : WriteFailed run.out → ⊥

pub record IsRun (run : Run) : Type 0 where
  -- after status 0 each line of the file has its answer, in order: an edit is done or refused by the rows that the edits before it left
  pub done : run.status ≡ statuses.Done → IsTrue run.sources_tell → IsDone run
  -- after each status the answers to the lines taken are there, as far as it says
  pub answered : IsTrue run.sources_tell → IsTrue run.sinks_tell
      → IsAnswered (addresses_asked run.words) run.status run.lines run.edits.now.taken run.out.now.written
  -- each status has its cause; words that ask for nothing are refused, and nothing is read then
  pub caused : IsCausedBy run run.status
  pub refused : totals_asked run.words ≡ None → run.status ≡ statuses.Words
  pub unread : run.status ≡ statuses.Words → run.edits.now ≡ run.edits.before
  -- where nothing stands in the way all is done, unless there is no memory
  pub complete : IsTrue run.sources_tell → IsFaultless run → (run.status ≡ statuses.Done) ⊎ (run.status ≡ statuses.Memory)
  -- whatever happens, no byte of the file is lost
  pub no_loss : IsTrue run.sources_tell → LosesNothing run.edits

-- ---- words of private contracts

-- the status of a run whose lines ended so
abbrev pub status_of : LinesEnd → TotalsStatus
status_of ends.Done = statuses.Done
status_of ends.Read = statuses.Read
status_of ends.Cut = statuses.Cut
status_of ends.Write = statuses.Write
status_of ends.Memory = statuses.Memory
