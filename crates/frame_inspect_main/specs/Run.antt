-- A run over the lines of a file: what the words ask for, what its source and its sink showed before and after it, its status,
-- and what is promised of it.
use Rattle.std.specs.Prelude.{ℕ, ◌≡◌, ◌⊎◌, ◌↔◌, ◌++◌, Bool, true, false, List, [], map, Option, None, IsTrue, IsSome}
use Rattle.std.specs.List.{concat}
use Rattle.outer_io.specs.Shown.{Change, SourceShown, SinkShown, ReadFailed, WriteFailed, LosesNothing, IsSilent, HasText}
use Rattle.line_reader.specs.Lines.{is_over, all_lines}
use Rattle.frame_inspect_main.specs.declared.status.InspectStatus.{InspectStatus}
use Rattle.frame_inspect_main.specs.declared.status.InspectStatus.TheVariants as statuses
use Rattle.frame_inspect_main.specs.Items.{item_of}
use Rattle.frame_inspect_main.specs.Layered.{layered_text}
use Rattle.frame_inspect_main.specs.Looks.{shown_from}
use Rattle.frame_inspect_main.specs.Statuses.{shows_lines, EndsBy}

-- what is shown of lines: a line for each, one after another, numbered from 1
unfoldable pub inspected : List (List ℕ) → List ℕ
inspected lines = concat (shown_from layered_text 1 (map item_of lines))

-- ---- what a run shows

pub record Run : Type 0 where
  -- how many workers the words ask for, if they are right
  pub workers : Option ℕ
  -- whether contracts know the bytes of the source, and of the sink
  pub source_tells : Bool
  pub sink_tells : Bool
  pub frames : Change SourceShown
  -- the lines taken of the source
  pub lines : List (List ℕ)
  pub output : Change SinkShown
  pub status : InspectStatus

-- all bytes that the source had
abbrev pub bytes_of : Run → List ℕ
bytes_of run = run.frames.before.taken ++ run.frames.before.left

-- ---- what is promised of it

-- the headline: what the output is, whatever the number of workers
pub record Headline (run : Run) : Type 0 where
  -- the lines taken are those of the bytes taken, which ended as the status says
  pub ended : EndsBy run.status run.frames.now.taken run.frames.now.left run.lines
  pub cut : (run.status ≡ statuses.Cut) ↔ (is_over run.frames.now.taken ≡ true)
  -- the output has their text, or a front of it where a write failed
  pub written : IsTrue run.sink_tells → HasText (inspected run.lines) run.output
  -- after status 0 it is the text of all lines of the source
  pub whole : IsTrue run.sink_tells → run.status ≡ statuses.Done → run.output.now.written ≡ inspected (all_lines (bytes_of run))

-- the cause of a status: the words, a count of faults that rose in this run, or bytes past a limit
abbrev pub IsCausedBy : Run → InspectStatus → Type 0
IsCausedBy run statuses.Done = IsTrue run.source_tells → run.frames.now.left ≡ []
IsCausedBy run statuses.Words = run.workers ≡ None
IsCausedBy run statuses.Read = ReadFailed run.frames
IsCausedBy run statuses.Write = WriteFailed run.output
IsCausedBy run statuses.Cut = IsTrue run.source_tells → is_over run.frames.now.taken ≡ true
IsCausedBy run statuses.Memory = Unit {0}

-- nothing stands in the way
pub record IsFaultless (run : Run) : Type 0 where
  pub words : IsSome run.workers
  pub within : is_over (bytes_of run) ≡ false
  pub source_steady : ReadFailed run.frames → ⊥
  pub sink_steady : WriteFailed run.output → ⊥

-- all is done, or there was no memory
abbrev pub IsDone : InspectStatus → Type 0
IsDone status = (status ≡ statuses.Done) ⊎ (status ≡ statuses.Memory)

pub record IsRun (run : Run) : Type 0 where
  -- after statuses 0, 5, 7 and 8
  pub headline : IsTrue (shows_lines run.status) → IsTrue run.source_tells → Headline run
  -- each status has its cause
  pub caused : IsCausedBy run run.status
  -- faulty words are refused, and where nothing stands in the way all is done
  pub refused : run.workers ≡ None → run.status ≡ statuses.Words
  pub complete : IsTrue run.source_tells → IsFaultless run → IsDone run.status
  -- whatever happens no byte is lost, and nothing is written after statuses 2 and 10
  pub no_loss : IsTrue run.source_tells → LosesNothing run.frames
  pub silent : shows_lines run.status ≡ false → IsSilent run.output
