-- A run of the collector: what its sources and sinks showed before and after it, its status, and what is promised of it.
use Rattle.std.specs.Prelude.{ℕ, ◌≡◌, ◌≢◌, ◌++◌, Bool, true, false, List, [], Option, Some, None, Ok, Err, IsTrue, map}
use Rattle.lists.specs.Each.{Each, EachWith, PassUntil, IsFirst}
use Rattle.outer_io.specs.Shown.{Change, SourceShown, SinkShown, ReadFailed, WriteFailed, LosesNothing, IsReadOut, IsSilent, HasText}
use Rattle.line_reader.specs.Lines.{is_over}
use Rattle.meter_address.specs.declared.address.Address.{Address}
use Rattle.meter_slots.specs.declared.counts.Ended.{Ended}
use Rattle.meter_slots.specs.declared.counts.Ended.TheVariants as ends
use Rattle.receivers.specs.Ending.{IsEnding}
use Rattle.receivers.specs.Classes.{counts_of}
use Rattle.receivers.specs.Collected.{IsAnswered, heard_in, part_by}
use Rattle.receivers.specs.HeardLines.{HeardLines, tellings, SendsAnswers}
use Rattle.receivers.specs.Run.{ReceiverRun}
use Rattle.receivers.specs.Session.{IsSession}
use Rattle.receivers.specs.Works.{Part}
use Rattle.report_text.specs.Orders.{orders}
use Rattle.state_file.specs.Whole.{Known}
use Rattle.state_file.specs.declared.fault.StateFault.{StateFault}
use Rattle.state_file.specs.declared.fault.StateFault.TheVariants as faults
use Rattle.collector_main.specs.declared.form.Form.{Form}
use Rattle.collector_main.specs.declared.status.Status.{Status}
use Rattle.collector_main.specs.declared.status.Status.TheVariants as statuses
use Rattle.collector_main.specs.Begin.{known_of}
use Rattle.collector_main.specs.Heard.{Heard, addresses, left_known, next_of, report_of, order_of}
use Rattle.collector_main.specs.Statuses.{was_heard, IsDone, IsRefused}

-- a sink that the command writes: its number in status 7, the text that it is to have of what was heard, and what it shows
pub record Output : Type 0 where
  pub number : ℕ
  pub text : Heard → List ℕ
  pub sink : Change SinkShown

-- a run: whether contracts know the bytes of sources, and of sinks; the form of the text that it begins from, and the source that has it;
-- the receivers, and whether they work at once and send downlinks; the outputs in the order of their writing; the status
pub record Run : Type 0 where
  pub sources_tell : Bool
  pub sinks_tell : Bool
  pub form : Form
  pub beginning : Change SourceShown
  pub receivers : List ReceiverRun
  pub sends : Bool
  pub outputs : List Output
  pub status : Status

-- ---- what was heard, and what is written of it

-- a receiver ended so after its lines, which are those of the first bytes that its source had, and its counts are those of these lines
pub record EndsSo (directory : List Address) (r : ReceiverRun) (heard : HeardLines) : Type 0 where
  pub ended : r.ended ≡ Some heard.ended
  pub lines : IsEnding heard.ended r.source.now.taken r.source.now.left heard.lines
  pub counts : r.counts ≡ counts_of directory (tellings heard)
  pub first_bytes : r.source.now.taken ++ r.source.now.left ≡ r.source.before.left

-- Each receiver's sink has the downlinks that its own lines were answered, in their order: all of them, or after a fault of the sink all
-- but bytes at the end of the last one.
pub record HaveSent (runs : List ReceiverRun) (heard : Heard) : Type 0 where
  pub parts : List Part
  pub lines : map heard_in parts ≡ map tellings heard.receivers
  pub answers : (w : ℕ) → IsAnswered (addresses heard.known) heard.world.slots w (part_by w parts)
  pub sent : EachWith SendsAnswers runs parts

-- an output has its whole text
abbrev pub IsWhole : Heard → Output → Type 0
IsWhole heard o = o.sink.now.written ≡ o.text heard

-- the output with this number couldn't be written
abbrev pub IsUnwritten : ℕ → Output → Type 0
IsUnwritten which o = (o.number ≡ which) × WriteFailed o.sink

-- The headline: the beginning was read to its end and is one, each receiver was heard, each meter's slot is that of its own lines alone and
-- the strangers' list has the others, the report's text tells their order, the receivers' sinks have the downlinks of just this, what is
-- left for the next session is read as what is known of the meters now, and the outputs have their texts: after status 0 whole, after
-- status 7 whole before the one that the status names, and else a front where a write failed.
pub record Headline (run : Run) : Type 0 where
  pub heard : Heard
  pub begun : IsReadOut run.beginning
  pub known_is : known_of run.form run.beginning.before.left ≡ Ok heard.known
  pub receivers : EachWith (EndsSo (addresses heard.known)) run.receivers heard.receivers
  pub session : IsSession heard.known.own heard.known.starts (map tellings heard.receivers) heard.world
  pub told : orders (report_of heard) ≡ order_of heard
  pub sent : IsTrue run.sends → HaveSent run.receivers heard
  pub left : IsTrue run.sends → known_of run.form (next_of run.form heard) ≡ Ok (left_known run.form heard.known.own heard.world.slots)
  pub written : IsTrue run.sinks_tell → Each (λ o. HasText (o.text heard) o.sink) run.outputs
  pub whole : IsTrue run.sinks_tell → run.status ≡ statuses.Done → Each (IsWhole heard) run.outputs
  pub stopped : IsTrue run.sinks_tell → (which : ℕ) → run.status ≡ statuses.Write which →
      PassUntil (IsWhole heard) (IsUnwritten which) run.outputs

-- ---- causes

abbrev pub HasEnded : Ended → ReceiverRun → Type 0
HasEnded ended r = r.ended ≡ Some ended

-- the cause of a receiver's end: its source's end, bytes past a limit, or a count of faults that rose
abbrev pub EndIsCaused : Bool → ReceiverRun → Option Ended → Type 0
EndIsCaused tells r (Some ends.End) = IsTrue tells → r.source.now.left ≡ []
EndIsCaused tells r (Some ends.Cut) = IsTrue tells → is_over r.source.now.taken ≡ true
EndIsCaused tells r (Some ends.ReadFault) = ReadFailed r.source
EndIsCaused tells r (Some ends.TxFault) = WriteFailed r.tx
EndIsCaused tells r (Some ends.Memory) = Unit {0}
EndIsCaused tells r None = Unit {0}

-- the cause of a status: bytes of the beginning, the first receiver that didn't end at its source's end, or the first output that couldn't be
-- written
abbrev pub IsCausedBy : Run → Status → Type 0
IsCausedBy run statuses.Done = Each (HasEnded ends.End) run.receivers
IsCausedBy run (statuses.Words fault) = ⊥
IsCausedBy run statuses.ReadRoster = ReadFailed run.beginning
IsCausedBy run (statuses.Roster line cause) =
    IsTrue run.sources_tell → known_of run.form run.beginning.before.left ≡ Err (faults.Roster line cause)
IsCausedBy run (statuses.State line cause) =
    IsTrue run.sources_tell → known_of run.form run.beginning.before.left ≡ Err (faults.Line line cause)
IsCausedBy run (statuses.Read w) = IsFirst (HasEnded ends.End) (HasEnded ends.ReadFault) w run.receivers
IsCausedBy run (statuses.Transmit w) = IsTrue run.sends × IsFirst (HasEnded ends.End) (HasEnded ends.TxFault) w run.receivers
IsCausedBy run (statuses.Cut w) = IsFirst (HasEnded ends.End) (HasEnded ends.Cut) w run.receivers
IsCausedBy run (statuses.Write which) = Each (HasEnded ends.End) run.receivers × PassUntil (λ o. Unit {0}) (IsUnwritten which) run.outputs
IsCausedBy run statuses.Memory = Unit {0}

-- nothing stands in the way: the beginning is one, each receiver's bytes are within the limits, and no read and no write failed
pub record IsFaultless (run : Run) : Type 0 where
  pub known : Known
  pub known_is : known_of run.form run.beginning.before.left ≡ Ok known
  pub within : Each (λ r. is_over r.source.before.left ≡ false) run.receivers
  pub beginning_steady : ¬ ReadFailed run.beginning
  pub receivers_steady : Each (λ r. ¬ ReadFailed r.source) run.receivers
  pub sinks_steady : IsTrue run.sends → Each (λ r. ¬ WriteFailed r.tx) run.receivers
  pub outputs_steady : Each (λ o. ¬ WriteFailed o.sink) run.outputs

-- the receivers are told of after each status, but for several ones for which there was no memory
abbrev pub AreTold : Run → Type 0
AreTold run = IsTrue run.sends → run.status ≢ statuses.Memory

-- ---- all that is promised

pub record IsRun (run : Run) : Type 0 where
  -- after statuses 0, 5, 6, 7 and 8
  pub headline : IsTrue (was_heard run.status) → IsTrue run.sources_tell → Headline run
  -- each status, and each receiver's end, has its cause
  pub status_caused : IsCausedBy run run.status
  pub ends_caused : AreTold run → Each (λ r. EndIsCaused run.sources_tell r r.ended) run.receivers
  -- a faulty beginning is refused for its first faulty line, and where nothing stands in the way all is done
  pub refused : IsTrue run.sources_tell → (fault : StateFault) → known_of run.form run.beginning.before.left ≡ Err fault →
      IsRefused fault run.status
  pub complete : IsTrue run.sources_tell → IsFaultless run → IsDone run.status
  -- whatever happens no byte is lost, and after the other statuses nothing was written
  pub no_loss : IsTrue run.sources_tell → LosesNothing run.beginning × (AreTold run → Each (λ r. LosesNothing r.source) run.receivers)
  pub silent : was_heard run.status ≡ false → Each (λ o. IsSilent o.sink) run.outputs
