-- A merge of inputs: what its sources and its sink showed before and after it, and what is promised of it.
use Rattle.std.specs.Prelude.{ℕ, ◌≡◌, ◌<◌, Bool, true, false, List, [], ◌∷◌, ◌++◌, length, map, IsTrue}
use Rattle.std.specs.List.{enumerate_from}
use Rattle.outer_io.specs.Bytes.{AppendsFront}
use Rattle.lists.specs.Each.{Each, PassUntil}
use Rattle.outer_io.specs.Shown.{Change, SourceShown, SinkShown, ReadFailed, WriteFailed, LosesNothing, source_change}
use Rattle.outer_io.specs.declared.sources.Source as sources
use Rattle.line_reader.specs.Lines.{is_over, all_lines}
use Rattle.line_reader.specs.Reader.{TextReading}
use Rattle.line_merge.specs.declared.status.FaultyInput.{FaultyInput}
use Rattle.line_merge.specs.declared.status.InputFault.{InputFault}
use Rattle.line_merge.specs.declared.status.InputFault.TheVariants as faults
use Rattle.line_merge.specs.declared.status.MergeStatus.{MergeStatus}
use Rattle.line_merge.specs.declared.status.MergeStatus.TheVariants as statuses
use Rattle.line_merge.specs.Merging.{Timed, Merged, IsMerge, MergesTo}
use Rattle.line_merge.specs.Inputs.{input_lines, merge_text}

-- ---- inputs

-- an input of which no line was given
pub record IsFresh {S : Type 0} (r : TextReading S) : Type 0 where
  pub line : r.reader.line ≡ 0
  pub goes_on : r.reader.done ≡ false
  pub longest : r.longest ≡ 15359

-- all bytes that an input has
abbrev pub bytes_of : {S : Type 0} → sources.Ghosts S → TextReading S → List ℕ
bytes_of s r = s.taken r.reader.source ++ s.left r.reader.source

-- an input: all bytes that it has, and what its source showed before and after a call
pub record InputShown : Type 0 where
  pub bytes : List ℕ
  pub source : Change SourceShown

abbrev pub input_shown : {S : Type 0} → sources.Ghosts S → (old new : TextReading S) → InputShown
input_shown s old new = record { bytes = bytes_of s old; source = source_change s old.reader.source new.reader.source }

abbrev pub inputs_shown : {S : Type 0} → sources.Ghosts S → (old new : List (TextReading S)) → List InputShown
inputs_shown s [] news = []
inputs_shown s (old ∷ olds) [] = []
inputs_shown s (old ∷ olds) (new ∷ news) = input_shown s old new ∷ inputs_shown s olds news

-- a line of the bytes is too long to be passed on
pub record HasLongLine (bytes : List ℕ) : Type 0 where
  pub before : List (List ℕ)
  pub line : List ℕ
  pub behind : List (List ℕ)
  pub lines_are : all_lines bytes ≡ before ++ line ∷ behind
  pub long : 15359 < length line

-- ---- what a merge shows

pub record Run : Type 0 where
  -- whether contracts know the bytes of the sources, and of the sink
  pub inputs_tell : Bool
  pub out_tells : Bool
  -- whether each line has its input's number in front of it
  pub numbered : Bool
  pub inputs : List InputShown
  pub out : Change SinkShown
  pub status : MergeStatus

-- the lines of each input
abbrev pub lines_of : Run → List (List Timed)
lines_of run = map (λ i. input_lines i.bytes) run.inputs

-- ---- what is promised

-- the text of the merge of all lines was written
pub record IsMergedText (numbered : Bool) (inputs : List (List Timed)) (before now : List ℕ) : Type 0 where
  pub merged : List Merged
  pub is_merge : IsMerge inputs merged
  pub written : now ≡ before ++ merge_text numbered merged

-- the text of the first lines of the merge was written
pub record IsMergedSoFar (numbered : Bool) (inputs : List (List Timed)) (before now : List ℕ) : Type 0 where
  pub merged : List Merged
  pub left : List (List Timed)
  pub merges : MergesTo inputs merged left
  pub written : now ≡ before ++ merge_text numbered merged

-- a front of the text of the first lines of the merge was written
pub record IsMergedInPart (numbered : Bool) (inputs : List (List Timed)) (before now : List ℕ) : Type 0 where
  pub merged : List Merged
  pub left : List (List Timed)
  pub merges : MergesTo inputs merged left
  pub written : AppendsFront (merge_text numbered merged) before now

-- what is written after a status
abbrev pub IsWritten : MergeStatus → Bool → List (List Timed) → (before now : List ℕ) → Type 0
IsWritten statuses.Done numbered inputs before now = IsMergedText numbered inputs before now
IsWritten (statuses.Input faulty) numbered inputs before now = IsMergedSoFar numbered inputs before now
IsWritten statuses.Write numbered inputs before now = IsMergedInPart numbered inputs before now

-- an input has the fault
abbrev pub HasFault : Bool → InputFault → InputShown → Type 0
HasFault tells faults.Read input = ReadFailed input.source
HasFault tells faults.Cut input = IsTrue tells → is_over input.bytes ≡ true
HasFault tells faults.Long input = IsTrue tells → HasLongLine input.bytes

-- the input with the number has the fault, where the first one has the number `first`
abbrev pub IsFaulty : Bool → (first : ℕ) → FaultyInput → List InputShown → Type 0
IsFaulty tells first faulty inputs =
    PassUntil (λ numbered. Unit {0}) (λ numbered. (numbered.0 ≡ faulty.number) × HasFault tells faulty.fault numbered.1) (enumerate_from first inputs)

-- the cause of a status
abbrev pub IsCausedBy : Run → MergeStatus → Type 0
IsCausedBy run statuses.Done = IsTrue run.inputs_tell → Each (λ i. is_over i.bytes ≡ false) run.inputs
IsCausedBy run (statuses.Input faulty) = IsFaulty run.inputs_tell 1 faulty run.inputs
IsCausedBy run statuses.Write = WriteFailed run.out

-- an input is within its limits, has no line that is too long, and can be read
pub record IsFaultless (input : InputShown) : Type 0 where
  pub within : is_over input.bytes ≡ false
  pub short : HasLongLine input.bytes → ⊥
  pub read : ReadFailed input.source → ⊥

-- nothing stands in the way
pub record IsUnhindered (run : Run) : Type 0 where
  pub faultless : Each IsFaultless run.inputs
  pub written : WriteFailed run.out → ⊥

pub record IsRun (run : Run) : Type 0 where
  -- after status 0 the output is the text of the merge of all inputs' lines; after the others a front of it, as far as the status says
  pub written : IsTrue run.inputs_tell → IsTrue run.out_tells
      → IsWritten run.status run.numbered (lines_of run) run.out.before.written run.out.now.written
  -- each status has its cause, and where nothing stands in the way all is done
  pub caused : IsCausedBy run run.status
  pub complete : IsTrue run.inputs_tell → IsUnhindered run → run.status ≡ statuses.Done
  -- whatever happens, no byte of an input is lost
  pub no_loss : IsTrue run.inputs_tell → Each (λ i. LosesNothing i.source) run.inputs
