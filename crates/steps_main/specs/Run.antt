-- A run: what its sources and sinks showed before and after it, its status, and what is promised of it.
use Rattle.std.specs.Prelude.{ℕ, ◌≡◌, ◌⊎◌, ◌++◌, Bool, true, false, List, [], ◌∷◌, Ok, Err, IsTrue}
use Rattle.outer_io.specs.Bytes.{AppendsFront}
use Rattle.outer_io.specs.Shown.{Change, SourceShown, SinkShown, ReadFailed, WriteFailed, LosesNothing, IsReadOut, IsSilent}
use Rattle.line_reader.specs.Lines.{is_over}
use Rattle.line_teller.specs.Ending.{EndsLines, is_whole}
use Rattle.receivers.specs.Session.{IsSession}
use Rattle.state_file.specs.Whole.{Known, state_of}
use Rattle.state_file.specs.declared.fault.StateFault.{StateFault}
use Rattle.state_file.specs.declared.fault.StateFault.TheVariants as faults
use Rattle.steps_main.specs.declared.status.StepsStatus.{StepsStatus}
use Rattle.steps_main.specs.declared.status.StepsStatus.TheVariants as statuses
use Rattle.steps_main.specs.Statuses.{was_heard, status_of, IsDone, IsRefused, IsUnread}
use Rattle.steps_main.specs.Steps.{Heard, tellings, world_behind, lines_told, told_text, next_known, next_text}

-- a run: whether contracts know the bytes of the sources, and of each sink; the state that it begins from, the receiver, what is left for the
-- next session, what is told; the status
pub record Run : Type 0 where
  pub sources_tell : Bool
  pub next_tells : Bool
  pub out_tells : Bool
  pub beginning : Change SourceShown
  pub receiver : Change SourceShown
  pub next : Change SinkShown
  pub out : Change SinkShown
  pub status : StepsStatus

-- ---- what stands on a sink behind what stood there before

-- this text
abbrev pub HasWhole : List ℕ → Change SinkShown → Type 0
HasWhole text sink = sink.now.written ≡ sink.before.written ++ text

-- some first bytes of it
abbrev pub HasFront : List ℕ → Change SinkShown → Type 0
HasFront text sink = AppendsFront text sink.before.written sink.now.written

-- ---- what is written of what was heard

-- Of all lines that could be read: what is left for the next session, and then all that is told, up to the counts.
pub record IsWhole (h : Heard) (run : Run) : Type 0 where
  pub ended : run.status ≡ status_of h.end
  pub next : IsTrue run.next_tells → HasWhole (next_text h) run.next
  pub out : IsTrue run.out_tells → HasWhole (told_text h) run.out

-- All lines that could be read were told, and then what is left for the next session couldn't be written.
pub record IsUnleft (h : Heard) (run : Run) : Type 0 where
  pub ended : IsTrue (is_whole h.end)
  pub next : IsTrue run.next_tells → HasFront (next_text h) run.next
  pub out : IsTrue run.out_tells → HasWhole (lines_told h.known [] 1 h.lines) run.out

-- What is told couldn't be written on, at some line or, once what is left for the next session was written, behind them all.
pub record IsUntold (h : Heard) (run : Run) : Type 0 where
  pub next : IsTrue run.next_tells → IsSilent run.next ⊎ (IsTrue (is_whole h.end) × HasWhole (next_text h) run.next)
  pub out : IsTrue run.out_tells → HasFront (told_text h) run.out

-- There was no memory for a line.
pub record IsUnmade (h : Heard) (run : Run) : Type 0 where
  pub next : IsTrue run.next_tells → IsSilent run.next
  pub out : IsTrue run.out_tells → HasFront (lines_told h.known [] 1 h.lines) run.out

abbrev pub IsWritten : StepsStatus → Heard → Run → Type 0
IsWritten statuses.WriteNext h run = IsUnleft h run
IsWritten statuses.WriteSteps h run = IsUntold h run
IsWritten statuses.Memory h run = IsUnmade h run
IsWritten _ h run = IsWhole h run

-- ---- the headline

-- The beginning was read to its end and is a state; of the receiver just these lines were told, as `EndsLines` says of their end; each meter's
-- slot is that of its own lines alone; where every line was told that could be read, what is left for the next session is read as what is
-- known of the meters now; and the sinks have their texts of just this, as the status says.
pub record Headline (run : Run) : Type 0 where
  pub heard : Heard
  pub begun : IsReadOut run.beginning
  pub known_is : state_of run.beginning.before.left ≡ Ok heard.known
  pub lines : EndsLines heard.end run.receiver.now.taken run.receiver.now.left heard.lines
  pub session : IsSession heard.known.own heard.known.starts (tellings heard ∷ []) (world_behind heard)
  pub left : IsTrue (is_whole heard.end) → state_of (next_text heard) ≡ Ok (next_known heard)
  pub written : IsWritten run.status heard run

-- ---- causes

-- nothing was written
pub record IsStill (run : Run) : Type 0 where
  pub next : IsSilent run.next
  pub out : IsSilent run.out

abbrev pub IsCausedBy : Run → StepsStatus → Type 0
IsCausedBy run statuses.Done = Unit {0}
IsCausedBy run statuses.ReadState = ReadFailed run.beginning
IsCausedBy run (statuses.Roster line cause) =
    IsTrue run.sources_tell → state_of run.beginning.before.left ≡ Err (faults.Roster line cause)
IsCausedBy run (statuses.State line cause) =
    IsTrue run.sources_tell → state_of run.beginning.before.left ≡ Err (faults.Line line cause)
IsCausedBy run statuses.Read = ReadFailed run.receiver
IsCausedBy run statuses.Cut = IsTrue run.sources_tell → is_over (run.receiver.before.taken ++ run.receiver.before.left) ≡ true
IsCausedBy run statuses.WriteNext = WriteFailed run.next
IsCausedBy run statuses.WriteSteps = WriteFailed run.out
IsCausedBy run statuses.Memory = Unit {0}

-- nothing stands in the way: the beginning is a state, the receiver is within the limits, and no read and no write failed
pub record IsFaultless (run : Run) : Type 0 where
  pub known : Known
  pub known_is : state_of run.beginning.before.left ≡ Ok known
  pub within : is_over (run.receiver.before.taken ++ run.receiver.before.left) ≡ false
  pub beginning_steady : ¬ ReadFailed run.beginning
  pub receiver_steady : ¬ ReadFailed run.receiver
  pub next_steady : ¬ WriteFailed run.next
  pub out_steady : ¬ WriteFailed run.out

-- ---- all that is promised

pub record IsRun (run : Run) : Type 0 where
  -- after statuses 0, 5, 7 and 8
  pub headline : IsTrue (was_heard run.status) → IsTrue run.sources_tell → Headline run
  -- after status 10 nothing was written, or what was told of the lines before, or a front of that
  pub unmade : run.status ≡ statuses.Memory → IsTrue run.sources_tell → IsStill run ⊎ Headline run
  -- after statuses 3 and 4 nothing was written
  pub still : IsUnread run.status → IsStill run
  -- each status has its cause
  pub caused : IsCausedBy run run.status
  -- a faulty beginning is refused for its first faulty line, and where nothing stands in the way all is done
  pub refused : IsTrue run.sources_tell → (fault : StateFault) → state_of run.beginning.before.left ≡ Err fault → IsRefused fault run.status
  pub complete : IsTrue run.sources_tell → IsFaultless run → IsDone run.status
  -- whatever happens, no byte is lost
  pub no_loss : IsTrue run.sources_tell → LosesNothing run.beginning × LosesNothing run.receiver
