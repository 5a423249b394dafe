-- A run over a roster and the lines of a file: what its sources and its sink showed before and after it, and what is promised of it.
use Rattle.std.specs.Prelude.{ℕ, ◌≡◌, ◌⊎◌, Bool, true, false, List, ◌++◌, Ok, Err, IsTrue}
use Rattle.outer_io.specs.Shown.{Change, SourceShown, SinkShown, ReadFailed, WriteFailed, LosesNothing}
use Rattle.meter_address.specs.Commission.{Commissioned}
use Rattle.line_reader.specs.Lines.{is_over, all_lines}
use Rattle.line_teller.specs.declared.ending.LinesEnd.{LinesEnd}
use Rattle.line_teller.specs.declared.ending.LinesEnd.TheVariants as ends
use Rattle.line_teller.specs.Ending.{EndsLines, EndsText}
use Rattle.roster_file.specs.Roster.{Enrolled, roster_of}
use Rattle.roster_file.specs.declared.roster.RosterFault.TheVariants.{Line}
use Rattle.frame_inspect.specs.declared.status.RecordsStatus.{RecordsStatus}
use Rattle.frame_inspect.specs.declared.status.RecordsStatus.TheVariants as statuses
use Rattle.frame_inspect.specs.Shown.{shown_from}

-- ---- lines that are shown under the keys of meters

pub record Showing : Type 0 where
  pub meters : List Commissioned
  -- whether contracts know the bytes of the source, and of the sink
  pub source_tells : Bool
  pub out_tells : Bool
  pub frames : Change SourceShown
  pub out : Change SinkShown
  -- how the lines ended
  pub end : LinesEnd

-- all bytes that the source had
abbrev pub bytes_of : Change SourceShown → List ℕ
bytes_of source = source.before.taken ++ source.before.left

-- lines of the file, as `EndsLines` says of this end, and what is shown of them, or a front of it where not all could be written
pub record AreShown (s : Showing) : Type 0 where
  pub lines : List (List ℕ)
  pub lines_are : EndsLines s.end s.frames.now.taken s.frames.now.left lines
  pub written : IsTrue s.out_tells → EndsText s.end (shown_from s.meters 1 lines) s.out

-- the file was read to its end, and what is shown of all its lines stands behind what was written before
pub record IsDone (s : Showing) : Type 0 where
  pub within : is_over (bytes_of s.frames) ≡ false
  pub written : IsTrue s.out_tells → s.out.now.written ≡ s.out.before.written ++ shown_from s.meters 1 (all_lines (bytes_of s.frames))

-- the cause of an end; want of memory is free
abbrev pub IsEndCause : Showing → LinesEnd → Type 0
IsEndCause s ends.Done = Unit {0}
IsEndCause s ends.Read = ReadFailed s.frames
IsEndCause s ends.Write = WriteFailed s.out
IsEndCause s ends.Cut = IsTrue s.source_tells → is_over (bytes_of s.frames) ≡ true
IsEndCause s ends.Memory = Unit {0}

pub record IsShowing (s : Showing) : Type 0 where
  -- whatever the end is, lines are shown as far as it says, and after `Done` all of them
  pub shown : IsTrue s.source_tells → AreShown s
  pub done : s.end ≡ ends.Done → IsTrue s.source_tells → IsDone s
  pub caused : IsEndCause s s.end
  -- whatever happens, no byte is lost
  pub no_loss : IsTrue s.source_tells → LosesNothing s.frames

-- ---- a run

pub record Run : Type 0 where
  pub sources_tell : Bool
  pub out_tells : Bool
  pub keys : Change SourceShown
  pub frames : Change SourceShown
  pub out : Change SinkShown
  pub status : RecordsStatus

-- the run shows lines under the keys of these meters, until they end so
abbrev pub showing_of : Run → List Commissioned → LinesEnd → Showing
showing_of run meters end = record {
  meters = meters;
  source_tells = run.sources_tell;
  out_tells = run.out_tells;
  frames = run.frames;
  out = run.out;
  end = end;
}

-- a roster was read, and lines are shown under the keys of its meters
pub record ShowsUnder (run : Run) (end : LinesEnd) : Type 0 where
  pub roster : Enrolled
  pub roster_is : IsTrue run.sources_tell → roster_of run.keys.before.left ≡ Ok roster
  pub showing : IsShowing (showing_of run roster.meters end)

-- nothing was shown, and no line was taken
pub record IsUnshown (run : Run) : Type 0 where
  pub untaken : run.frames.now ≡ run.frames.before
  pub silent : run.out.now ≡ run.out.before

-- what each status says
abbrev pub Says : Run → RecordsStatus → Type 0
Says run statuses.ReadRoster = ReadFailed run.keys × IsUnshown run
Says run (statuses.Roster line cause) =
    (IsTrue run.sources_tell → roster_of run.keys.before.left ≡ Err (Line line cause)) × IsUnshown run
Says run statuses.Memory = IsUnshown run
Says run (statuses.Shown end) = ShowsUnder run end

-- nothing stands in the way
pub record IsUnhindered (run : Run) : Type 0 where
  pub roster : Enrolled
  pub roster_is : roster_of run.keys.before.left ≡ Ok roster
  pub within : is_over (bytes_of run.frames) ≡ false
  pub keys_steady : ReadFailed run.keys → ⊥
  pub frames_steady : ReadFailed run.frames → ⊥
  pub out_steady : WriteFailed run.out → ⊥

-- all lines are shown, or there was no memory
abbrev pub IsComplete : RecordsStatus → Type 0
IsComplete status = (status ≡ statuses.Shown ends.Done) ⊎ ((status ≡ statuses.Shown ends.Memory) ⊎ (status ≡ statuses.Memory))

pub record IsRun (run : Run) : Type 0 where
  pub says : Says run run.status
  -- where nothing stands in the way all lines are shown, unless there is no memory
  pub complete : IsTrue run.sources_tell → IsUnhindered run → IsComplete run.status
  -- whatever happens, no byte of the roster is lost
  pub no_loss : IsTrue run.sources_tell → LosesNothing run.keys
