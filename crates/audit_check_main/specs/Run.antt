-- A run of the audit: what its sources and its sink showed before and after it, its status, and what is promised of it.
use Rattle.std.specs.Prelude.{ℕ, ◌≡◌, ◌&&◌, ◌<◌, ◌≤◌, nat_eq, nat_le, Bool, true, false, List, [], ◌∷◌, codes, length, Option, Some, None, IfSome, IsTrue, if◌then◌else◌}
use Rattle.std.specs.Cmp.Lexicographic.{pointwise}
use Rattle.outer_io.specs.Bytes.{Moves, AppendsFront}
use Rattle.lists.specs.Each.{Each, EachWith, IsFirst}
use Rattle.outer_io.specs.Shown.{Change, SourceShown, SinkShown, source_change, ReadFailed, WriteFailed, LosesNothing, IsSilent}
use Rattle.outer_io.specs.declared.sources.Source as sources
use Rattle.audit_check_main.specs.declared.status.AuditStatus.{AuditStatus}
use Rattle.audit_check_main.specs.declared.status.AuditStatus.TheVariants as statuses
use Rattle.audit_check_main.specs.declared.verdict.Verdict.{Verdict}
use Rattle.audit_check_main.specs.declared.verdict.Verdict.TheVariants.{Yes, No}
use Rattle.audit_check_main.specs.Audit.{Audited, IsVerdict}
use Rattle.audit_check_main.specs.Texts.{verdict_text}

-- ---- what a run shows

pub record Run : Type 0 where
  -- whether contracts know the bytes of sources, and of the sink
  pub sources_tell : Bool
  pub sinks_tell : Bool
  pub words : List (List ℕ)
  pub state : Change SourceShown
  -- the state that is judged, if one is
  pub next : Option (Change SourceShown)
  pub report : Change SourceShown
  pub inputs : List (Change SourceShown)
  pub out : Change SinkShown
  pub status : AuditStatus

-- each source before the run with the same one after it
abbrev pub source_changes : {S : Type 0} → sources.Ghosts S → (old new : List S) → List (Change SourceShown)
source_changes s [] news = []
source_changes s (old ∷ olds) [] = []
source_changes s (old ∷ olds) (new ∷ news) = source_change s old new ∷ source_changes s olds news

-- a source that there may be, before the run and after it
abbrev pub next_change : {S : Type 0} → sources.Ghosts S → (old new : Option S) → Option (Change SourceShown)
next_change s (Some old) (Some new) = Some (source_change s old new)
next_change s _ _ = None

-- the first word asks for the state behind it to be judged
abbrev pub judges_next : List (List ℕ) → Bool
judges_next [] = false
judges_next (word ∷ words) = pointwise nat_eq word (codes "--next")

abbrev pub behind_next : List (List ℕ) → List (List ℕ)
behind_next (option ∷ next ∷ files) = files
behind_next _ = []

-- the words that name the files of the session
abbrev pub file_words : List (List ℕ) → List (List ℕ)
file_words words = if judges_next words then behind_next words else words

-- they are a state, a report, and 1 to 16 inputs
abbrev pub are_files : List (List ℕ) → Bool
are_files words = nat_le 3 (length (file_words words)) && nat_le (length (file_words words)) 18

-- ---- what was read and answered

-- these bytes were read of a source: all that it had, or more than `most` of them
pub record IsReadPast (most : ℕ) (source : Change SourceShown) (bytes : List ℕ) : Type 0 where
  pub moved : Moves bytes source.before.taken source.before.left source.now.taken source.now.left
  pub ended : length bytes ≤ most → source.now.left ≡ []

-- an input was read to its end, or past 67,108,864 bytes
pub record WasRead (source : Change SourceShown) : Type 0 where
  pub bytes : List ℕ
  pub past : IsReadPast 67108864 source bytes

-- the state that is judged, if one is, was read to its end, or past 134,217,728 bytes
abbrev pub IsNextRead : Option (Change SourceShown) → Option (List ℕ) → Type 0
IsNextRead None None = Unit {0}
IsNextRead (Some source) (Some bytes) = IsReadPast 134217728 source bytes
IsNextRead _ _ = ⊥

abbrev pub NextFailed : Option (Change SourceShown) → Type 0
NextFailed None = ⊥
NextFailed (Some source) = ReadFailed source

-- The state, and the one that is judged, were read to their ends or past 134,217,728 bytes, which no state has, the report to its end, each
-- input to its end or past 67,108,864 bytes, which is over a receiver's limit, and this is the verdict on just these bytes.
pub record HasVerdict (run : Run) (verdict : Verdict) : Type 0 where
  pub read : Audited
  pub state : IsReadPast 134217728 run.state read.state
  pub next : IsNextRead run.next read.next
  pub report : IsReadPast 1073741824 run.report read.report
  pub short : length read.report ≤ 1073741824
  pub inputs : EachWith (IsReadPast 67108864) run.inputs read.inputs
  pub verdict_is : IsVerdict read verdict

-- the verdict, and that it is written: whole, or a front of it where a write failed
pub record IsAnswered (run : Run) (verdict : Verdict) : Type 0 where
  pub answer : IsTrue run.sources_tell → HasVerdict run verdict
  pub written : IsTrue run.sinks_tell → run.out.now.written ≡ verdict_text verdict

pub record IsUnwritten (run : Run) : Type 0 where
  pub verdict : Verdict
  pub answer : IsTrue run.sources_tell → HasVerdict run verdict
  pub written : IsTrue run.sinks_tell → AppendsFront (verdict_text verdict) [] run.out.now.written
  pub failed : WriteFailed run.out

-- ---- statuses

-- the cause of each status
abbrev pub IsCausedBy : Run → AuditStatus → Type 0
IsCausedBy run statuses.Yes = IsAnswered run Yes
IsCausedBy run (statuses.No cause) = IsAnswered run (No cause)
IsCausedBy run statuses.Words = are_files run.words ≡ false
IsCausedBy run statuses.ReadState = ReadFailed run.state
IsCausedBy run statuses.ReadNext = NextFailed run.next
IsCausedBy run statuses.ReadReport = ReadFailed run.report
IsCausedBy run statuses.LongReport = IsTrue run.sources_tell → 1073741824 < length run.report.before.left
IsCausedBy run (statuses.Read w) = IsFirst (λ source. IsTrue run.sources_tell → WasRead source) ReadFailed w run.inputs
IsCausedBy run statuses.Write = IsUnwritten run
IsCausedBy run statuses.Memory = Unit {0}

-- whether something may be written
abbrev pub writes : AuditStatus → Bool
writes statuses.Yes = true
writes (statuses.No cause) = true
writes statuses.Write = true
writes _ = false

-- there is a verdict, or no memory
abbrev pub IsDone : AuditStatus → Type 0
IsDone statuses.Yes = Unit {0}
IsDone (statuses.No cause) = Unit {0}
IsDone statuses.Memory = Unit {0}
IsDone _ = ⊥

-- a report past the limit is refused, unless something before it can't be read or there is no memory
abbrev pub IsTooLong : AuditStatus → Type 0
IsTooLong statuses.LongReport = Unit {0}
IsTooLong statuses.ReadState = Unit {0}
IsTooLong statuses.ReadNext = Unit {0}
IsTooLong statuses.ReadReport = Unit {0}
IsTooLong statuses.Memory = Unit {0}
IsTooLong _ = ⊥

-- nothing stands in the way of a verdict
pub record IsFaultless (run : Run) : Type 0 where
  pub words : are_files run.words ≡ true
  pub short : length run.report.before.left ≤ 1073741824
  pub state_steady : ReadFailed run.state → ⊥
  pub next_steady : NextFailed run.next → ⊥
  pub report_steady : ReadFailed run.report → ⊥
  pub inputs_steady : Each (λ source. ReadFailed source → ⊥) run.inputs
  pub out_steady : WriteFailed run.out → ⊥

-- ---- all that is promised

pub record IsRun (run : Run) : Type 0 where
  -- each status has its cause: `yes` and `no` say the verdict on the bytes read, and it is written
  pub caused : IsCausedBy run run.status
  -- faulty words and a long report are refused, and where nothing stands in the way there is a verdict
  pub refused : are_files run.words ≡ false → run.status ≡ statuses.Words
  pub too_long : IsTrue run.sources_tell → are_files run.words ≡ true → 1073741824 < length run.report.before.left → IsTooLong run.status
  pub complete : IsTrue run.sources_tell → IsFaultless run → IsDone run.status
  -- whatever happens no byte is lost, and nothing is written but a verdict
  pub no_loss : IsTrue run.sources_tell →
      LosesNothing run.state × IfSome run.next LosesNothing × LosesNothing run.report × Each LosesNothing run.inputs
  pub silent : writes run.status ≡ false → IsSilent run.out
