-- A check of a state, which may be a roster, and of receivers: what its sources and its sink showed before and after it, and what is
-- promised of it.
use Rattle.std.specs.Prelude.{ℕ, ◌≡◌, ◌⊎◌, ◌&&◌, ◌||◌, not, nat_lt, Bool, false, List, ◌++◌, length, take, Result, Ok, Err, IsTrue, IfOk, IfErr, OnOk, OnErr}
use Rattle.outer_io.specs.Bytes.{AppendsFront}
use Rattle.lists.specs.Each.{Each}
use Rattle.outer_io.specs.Shown.{Change, SourceShown, SinkShown, source_change, sink_change, ReadFailed, WriteFailed, LosesNothing, IsSilent}
use Rattle.outer_io.specs.declared.sources.Source as sources
use Rattle.outer_io.specs.declared.sinks.Sink as sinks
use Rattle.line_reader.specs.Lines.{is_over}
use Rattle.line_reader.specs.Reader.{Reader}
use Rattle.meter_address.specs.declared.address.Address.{Address}
use Rattle.meter_address.specs.Commission.{Commissioned}
use Rattle.state_file.specs.Whole.{state_of}
use Rattle.input_check.specs.declared.hints.Note.{Note}
use Rattle.input_check.specs.declared.states.Stop.{Stop}
use Rattle.input_check.specs.declared.states.Stop.TheVariants as stops
use Rattle.input_check.specs.Findings.{state_text}
use Rattle.input_check.specs.Hints.{notes_text}
use Rattle.input_check.specs.Noticing.{notes_on_keys, NotedIf}
use Rattle.input_check.specs.Receivers.{reader_changes, bytes_of_each, any_faulty, heard_by_all, receivers_text}
use Rattle.input_check.specs.States.{is_faulty_text, meters_in, IsTooLong, IsReadWithin}
use Rattle.input_check.specs.Stops.{StopsBy, IsHeardOut, IsLong, IsUnread, StopsBehind}

-- ---- what is found

-- the state, or a line of a receiver, is faulty
abbrev pub is_faulty : (state : List ℕ) → (receivers : List (List ℕ)) → Bool
is_faulty state receivers = is_faulty_text state || any_faulty receivers

-- what there is to say of the keys of a state's meters: nothing where it is refused
abbrev pub key_notes_of : List ℕ → List Note
key_notes_of state = notes_on_keys (meters_in (state_of state))

-- all that there is to say of a state: what is faulty of it, and notes on its keys
abbrev pub said_of_state : List ℕ → List ℕ
said_of_state state = state_text state ++ notes_text (key_notes_of state)

-- all that there is to say of the files: that, and the faulty lines of each receiver
abbrev pub said_of_files : (state : List ℕ) → (receivers : List (List ℕ)) → List ℕ
said_of_files state receivers = said_of_state state ++ receivers_text 0 receivers

-- what was heard is compared with the meters where the state isn't faulty and there are receivers
abbrev pub is_compared : (state : List ℕ) → (receivers : List (List ℕ)) → Bool
is_compared state receivers = not (is_faulty_text state) && nat_lt 0 (length receivers)

-- these notes are added, where what was heard is compared
pub record AddsNotes (compares : Bool) (heard : List Address) (meters : List Commissioned) (old new : List ℕ) : Type 0 where
  pub notes : List Note
  pub noted : NotedIf compares heard meters notes
  pub printed : new ≡ old ++ notes_text notes

-- a front of them
pub record AddsNoteFront (compares : Bool) (heard : List Address) (meters : List Commissioned) (old new : List ℕ) : Type 0 where
  pub notes : List Note
  pub noted : NotedIf compares heard meters notes
  pub front : AppendsFront (notes_text notes) old new

-- nothing, or a front of them
abbrev pub AddsNotesInPart : (compares : Bool) → (heard : List Address) → (meters : List Commissioned) → (old new : List ℕ) → Type 0
AddsNotesInPart compares heard meters old new = (new ≡ old) ⊎ AddsNoteFront compares heard meters old new

-- all that is printed: what there is to say of the files, and then the notes on what was heard
abbrev pub IsPrinted : (state : List ℕ) → (receivers : List (List ℕ)) → (old new : List ℕ) → Type 0
IsPrinted state receivers old new =
    AddsNotes (is_compared state receivers) (heard_by_all receivers) (meters_in (state_of state)) (old ++ said_of_files state receivers) new

-- a front of that, which ends in the notes or before them
abbrev pub IsPrintedInPart : (state : List ℕ) → (receivers : List (List ℕ)) → (old new : List ℕ) → Type 0
IsPrintedInPart state receivers old new =
    AppendsFront (said_of_files state receivers) old new
    ⊎ AddsNoteFront (is_compared state receivers) (heard_by_all receivers) (meters_in (state_of state)) (old ++ said_of_files state receivers)
    new

-- ---- what a check shows

pub record Run : Type 0 where
  -- whether contracts know the bytes of sources, and of the sink
  pub sources_tell : Bool
  pub sinks_tell : Bool
  pub state : Change SourceShown
  pub receivers : List (Change SourceShown)
  -- the bytes that each receiver had
  pub bytes : List (List ℕ)
  pub out : Change SinkShown
  -- whether something is faulty, or why not all was checked
  pub checked : Result Bool Stop

-- a check of these sources on this sink, before it and after it, and its answer
abbrev pub run_of : {S K : Type 0} → sources.Ghosts S → sinks.Ghosts K → (state state' : S) → (receivers receivers' : List (Reader S))
    → (out out' : K) → Result Bool Stop → Run
run_of s k state state' receivers receivers' out out' checked = record {
  sources_tell = s.tells;
  sinks_tell = k.tells;
  state = source_change s state state';
  receivers = reader_changes s receivers receivers';
  bytes = bytes_of_each s receivers;
  out = sink_change k out out';
  checked = checked;
}

-- ---- what was checked

-- the state and each receiver was read to its end, within its limits, and the answer is that of all their lines
pub record IsChecked (run : Run) (faulty : Bool) : Type 0 where
  pub state : IsReadWithin run.state
  pub receivers : Each IsHeardOut run.receivers
  pub faulty_is : faulty ≡ is_faulty run.state.before.left run.bytes

-- ---- why it stops, and what it leaves

-- it stops at the state, for this reason: no receiver is read, and nothing is printed
pub record StopsAtState (why : Type 0) (run : Run) : Type 0 where
  pub caused : why
  pub unread : Each IsUnread run.receivers
  pub silent : IsSilent run.out

-- It stops at a receiver, for this reason. The state and the receivers before it were read to their ends, within their limits, those behind it
-- are unread, and just what there is to say of those before it is printed.
pub record StopsAtReceiver (why : Change SourceShown → Type 0) (run : Run) : Type 0 where
  pub state : IsTrue run.sources_tell → IsReadWithin run.state
  pub place : ℕ
  pub stopped : StopsBehind run.sources_tell why place run.receivers
  pub printed : IsTrue run.sources_tell → IsTrue run.sinks_tell
      → run.out.now.written ≡ run.out.before.written ++ said_of_files run.state.before.left (take place run.bytes)

-- a write failed, which is once the state was read
pub record IsUnwritten (run : Run) : Type 0 where
  pub failed : WriteFailed run.out
  pub state : IsTrue run.sources_tell → IsReadWithin run.state

-- the cause of each stop; want of memory is free
abbrev pub IsCausedBy : Run → Stop → Type 0
IsCausedBy run stop =
    StopsBy (StopsAtState (ReadFailed run.state) run ⊎ StopsAtReceiver ReadFailed run)
    (StopsAtState (IsTrue run.sources_tell → IsTooLong run.state.before.left) run ⊎ StopsAtReceiver (IsLong run.sources_tell) run)
    (IsUnwritten run) stop

-- a state past its limit is answered so: it is cut, unless it can't be read so far or there is no memory
abbrev pub IsCut : Result Bool Stop → Type 0
IsCut checked = (checked ≡ Err stops.Cut) ⊎ (checked ≡ Err stops.Read) ⊎ (checked ≡ Err stops.Memory)

-- nothing stands in the way
pub record IsFaultless (run : Run) : Type 0 where
  pub state_short : IsTooLong run.state.before.left → ⊥
  pub receivers_short : Each (λ r. is_over r.before.left ≡ false) run.receivers
  pub state_steady : ReadFailed run.state → ⊥
  pub receivers_steady : Each (λ r. ReadFailed r → ⊥) run.receivers
  pub out_steady : WriteFailed run.out → ⊥

-- all is checked, or there is no memory
abbrev pub IsDone : Result Bool Stop → Type 0
IsDone (Ok faulty) = Unit {0}
IsDone (Err stop) = stop ≡ stops.Memory

-- ---- what is promised

pub record IsRun (run : Run) : Type 0 where
  -- where all was checked, each file was looked at: the answer is that of all their lines, and what is wrong with each is printed
  pub checked : IfOk run.checked (λ faulty. IsTrue run.sources_tell → IsChecked run faulty)
  pub printed : OnOk run.checked (IsTrue run.sources_tell → IsTrue run.sinks_tell
      → IsPrinted run.state.before.left run.bytes run.out.before.written run.out.now.written)
  -- each stop has its cause, and leaves a front of what there is to print
  pub caused : IfErr run.checked (IsCausedBy run)
  pub front : OnErr run.checked (IsTrue run.sources_tell → IsTrue run.sinks_tell
      → IsPrintedInPart run.state.before.left run.bytes run.out.before.written run.out.now.written)
  -- a state past its limit is cut, and where nothing stands in the way all is checked
  pub too_long : IsTrue run.sources_tell → IsTooLong run.state.before.left → IsCut run.checked
  pub complete : IsTrue run.sources_tell → IsFaultless run → IsDone run.checked
  -- whatever happens, no byte is lost
  pub no_loss : IsTrue run.sources_tell → LosesNothing run.state × Each LosesNothing run.receivers
