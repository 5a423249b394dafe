-- A run over senders and what is delivered: what its sources and its sink showed before and after it, and what is promised of it.
use Rattle.std.specs.Prelude.{ℕ, ◌≡◌, ◌⊎◌, Bool, true, false, List, [], ◌++◌, Ok, Err, IsTrue}
use Rattle.outer_io.specs.Bytes.{AppendsFront}
use Rattle.outer_io.specs.Shown.{Change, SourceShown, SinkShown, ReadFailed, WriteFailed, LosesNothing, IsReadOut}
use Rattle.line_reader.specs.Lines.{is_over}
use Rattle.line_teller.specs.declared.ending.LinesEnd.{LinesEnd}
use Rattle.line_teller.specs.declared.ending.LinesEnd.TheVariants as ends
use Rattle.line_teller.specs.Ending.{EndsLines}
use Rattle.line_accept.specs.Senders.{Sender}
use Rattle.line_accept.specs.declared.fault.SendersFault.TheVariants.{Line}
use Rattle.line_accept.specs.declared.status.AcceptStatus.{AcceptStatus}
use Rattle.line_accept.specs.declared.status.AcceptStatus.TheVariants as statuses
use Rattle.line_accept.specs.SendersFile.{senders_of}
use Rattle.line_accept.specs.Answers.{output_text}

-- the program's exit status
abbrev pub code_of : AcceptStatus → ℕ
code_of statuses.Done = 0
code_of statuses.Words = 2
code_of (statuses.Senders line cause) = 3
code_of statuses.ReadSenders = 4
code_of statuses.Read = 5
code_of statuses.Write = 7
code_of statuses.Cut = 8
code_of statuses.Memory = 10

-- the status of lines that ended so
abbrev pub status_of : LinesEnd → AcceptStatus
status_of ends.Done = statuses.Done
status_of ends.Read = statuses.Read
status_of ends.Cut = statuses.Cut
status_of ends.Write = statuses.Write
status_of ends.Memory = statuses.Memory

pub record Run : Type 0 where
  -- whether contracts know the bytes of the sources, and of the sink
  pub sources_tell : Bool
  pub sinks_tell : Bool
  pub senders : Change SourceShown
  pub deliveries : Change SourceShown
  pub out : Change SinkShown
  pub status : AcceptStatus

-- ---- what is promised

-- whether the output has its whole text
abbrev pub is_complete : AcceptStatus → Bool
is_complete statuses.Done = true
is_complete statuses.Read = true
is_complete statuses.Cut = true
is_complete _ = false

-- these lines of what is delivered are answered, each by the fences that those before it left, and the senders are said whose fences
-- moved; where a write failed, or there was no memory, a front of that is there
pub record Answers (senders : List Sender) (deliveries : Change SourceShown) (sinks_tell : Bool) (out : Change SinkShown)
    (status : AcceptStatus) : Type 0 where
  pub end : LinesEnd
  pub lines : List (List ℕ)
  pub ends : EndsLines end deliveries.now.taken deliveries.now.left lines
  pub status_is : (status ≡ status_of end) ⊎ (status ≡ statuses.Write)
  pub whole : IsTrue sinks_tell → IsTrue (is_complete status) → out.now.written ≡ output_text senders lines
  pub front : IsTrue sinks_tell → AppendsFront (output_text senders lines) [] out.now.written

-- whether lines were taken, so after statuses 0, 5, 7, 8 and perhaps 10
abbrev pub was_answered : AcceptStatus → Bool
was_answered statuses.Done = true
was_answered statuses.Read = true
was_answered statuses.Cut = true
was_answered statuses.Write = true
was_answered _ = false

-- whether there are no senders, so after statuses 3 and 4
abbrev pub was_refused : AcceptStatus → Bool
was_refused statuses.ReadSenders = true
was_refused (statuses.Senders line cause) = true
was_refused _ = false

-- nothing was written
abbrev pub IsSilent : Run → Type 0
IsSilent run = IsTrue run.sinks_tell → run.out.now.written ≡ run.out.before.written

-- the headline: the senders were read to their end, and the lines are answered by them
pub record Headline (run : Run) : Type 0 where
  pub senders : List Sender
  pub senders_are : senders_of run.senders.before.left ≡ Ok senders
  pub read : IsReadOut run.senders
  pub answered : Answers senders run.deliveries run.sinks_tell run.out run.status

-- the cause of a status
abbrev pub IsCausedBy : Run → AcceptStatus → Type 0
IsCausedBy run statuses.Done = IsTrue run.sources_tell → IsReadOut run.deliveries
IsCausedBy run statuses.Words = ⊥
IsCausedBy run statuses.ReadSenders = ReadFailed run.senders
IsCausedBy run (statuses.Senders line cause) = IsTrue run.sources_tell → senders_of run.senders.before.left ≡ Err (Line line cause)
IsCausedBy run statuses.Read = ReadFailed run.deliveries
IsCausedBy run statuses.Cut = IsTrue run.sources_tell → is_over run.deliveries.before.left ≡ true
IsCausedBy run statuses.Write = WriteFailed run.out
IsCausedBy run statuses.Memory = Unit {0}

-- nothing stands in the way
pub record IsFaultless (run : Run) : Type 0 where
  pub senders : List Sender
  pub senders_are : senders_of run.senders.before.left ≡ Ok senders
  pub within : is_over run.deliveries.before.left ≡ false
  pub senders_steady : ReadFailed run.senders → ⊥
  pub deliveries_steady : ReadFailed run.deliveries → ⊥
  pub out_steady : WriteFailed run.out → ⊥

pub record IsRun (run : Run) : Type 0 where
  -- after statuses 0, 5, 7 and 8
  pub headline : IsTrue (was_answered run.status) → IsTrue run.sources_tell → Headline run
  -- after statuses 3 and 4 nothing is written; after 10 nothing is, or it is as after 7
  pub silent : IsTrue (was_refused run.status) → IsSilent run
  pub memory : run.status ≡ statuses.Memory → IsTrue run.sources_tell → IsSilent run ⊎ Headline run
  -- each status has its cause, and where nothing stands in the way all is answered, unless there is no memory
  pub caused : IsCausedBy run run.status
  pub complete : IsTrue run.sources_tell → IsFaultless run → (run.status ≡ statuses.Done) ⊎ (run.status ≡ statuses.Memory)
  -- whatever happens, no byte is lost
  pub senders_kept : IsTrue run.sources_tell → LosesNothing run.senders
  pub deliveries_kept : IsTrue run.sources_tell → LosesNothing run.deliveries

-- ---- words of private contracts

-- why there are no senders
abbrev pub IsRefused : Bool → Change SourceShown → AcceptStatus → Type 0
IsRefused tells senders statuses.ReadSenders = ReadFailed senders
IsRefused tells senders (statuses.Senders line cause) = IsTrue tells → senders_of senders.before.left ≡ Err (Line line cause)
IsRefused tells senders statuses.Memory = Unit {0}
IsRefused tells senders _ = ⊥

-- why lines came to a status
abbrev pub IsAnswered : Bool → Change SourceShown → Change SinkShown → AcceptStatus → Type 0
IsAnswered tells deliveries out statuses.Done = IsTrue tells → (deliveries.now.left ≡ []) × (is_over deliveries.now.taken ≡ false)
IsAnswered tells deliveries out statuses.Read = ReadFailed deliveries
IsAnswered tells deliveries out statuses.Cut = IsTrue tells → is_over (deliveries.now.taken ++ deliveries.now.left) ≡ true
IsAnswered tells deliveries out statuses.Write = WriteFailed out
IsAnswered tells deliveries out statuses.Memory = Unit {0}
IsAnswered tells deliveries out _ = ⊥
