-- A run of the meter's side: what its sources and its sink showed before and after it, its status, and what is promised of it.
use Rattle.std.specs.Prelude.{ℕ, ◌≡◌, ◌==◌, ◌⊎◌, Bool, true, false, List, [], ◌∷◌, find, Option, Some, None, option_map, Ok, Err, IsTrue}
use Rattle.line_reader.specs.Lines.{is_over}
use Rattle.meter_address.specs.declared.address.Address.{Address}
use Rattle.meter_address.specs.Address.{address_of}
use Rattle.meter_address.specs.Commission.{Commissioned}
use Rattle.outer_io.specs.Shown.{Change, SourceShown, SinkShown, ReadFailed, WriteFailed, LosesNothing, IsReadOut, IsSilent, HasText}
use Rattle.meter_slots.specs.Journal.{Start, commission_of}
use Rattle.state_file.specs.Whole.{Known, state_of}
use Rattle.state_file.specs.declared.fault.StateFault.{StateFault}
use Rattle.state_file.specs.declared.fault.StateFault.TheVariants as faults
use Rattle.meter_side_main.specs.declared.lines.Answer.{Answer}
use Rattle.meter_side_main.specs.declared.session.DeliveriesEnd.{DeliveriesEnd}
use Rattle.meter_side_main.specs.declared.session.DeliveriesEnd.TheVariants as ends
use Rattle.meter_side_main.specs.declared.status.SideStatus.{SideStatus}
use Rattle.meter_side_main.specs.declared.status.SideStatus.TheVariants as statuses
use Rattle.meter_side_main.specs.Genuine.{AreExecuted}
use Rattle.meter_side_main.specs.Answers.{AreAnswers, deliveries_in, executed_among, side_text}
use Rattle.meter_side_main.specs.Session.{EndsSo}
use Rattle.meter_side_main.specs.Statuses.{status_of, was_heard}

-- the address in the words: the second of three
unfoldable pub address_in : List (List ℕ) → Option Address
address_in (state ∷ address ∷ tx ∷ []) = address_of address
address_in _ = None

-- what is commissioned now of the meter with this address: its keys, and the counter of the last downlink that was sent to it
abbrev pub meter_with : Address → List Start → Option Commissioned
meter_with a starts = option_map commission_of (find (λ c. c.address.0 == a.0) starts)

-- a run: its words, whether contracts know the bytes of sources and of sinks, and what these show: the state that it begins from, which
-- may be a roster, the deliveries and the output
pub record Run : Type 0 where
  pub words : List (List ℕ)
  pub sources_tell : Bool
  pub sinks_tell : Bool
  pub beginning : Change SourceShown
  pub tx : Change SourceShown
  pub out : Change SinkShown
  pub status : SideStatus

-- ---- what is promised of it

-- the words name an address, and this is known of the meters
pub record Names (run : Run) (a : Address) (known : Known) : Type 0 where
  pub named : address_in run.words ≡ Some a
  pub known_is : state_of run.beginning.before.left ≡ Ok known

-- the status where the source of deliveries ended so
abbrev pub IsStatusOf : DeliveriesEnd → SideStatus → Type 0
IsStatusOf ends.End status = (status ≡ statuses.Done) ⊎ (status ≡ statuses.Write)
IsStatusOf ends.Cut status = status ≡ statuses.Cut
IsStatusOf ends.Fault status = status ≡ statuses.Read

-- a meter heard these lines of the deliveries, and the output tells what it did with each of them: what is executed is genuine
-- and above all that was executed before, and what is refused is so for its first cause
pub record Hears (own : Address) (meter : Commissioned) (tx : Change SourceShown) (sinks_tell : Bool) (out : Change SinkShown)
    (status : SideStatus) : Type 0 where
  pub ended : DeliveriesEnd
  pub lines : List (List ℕ)
  pub answers : List Answer
  pub status_is : IsStatusOf ended status
  pub ends : EndsSo ended tx.now.taken tx.now.left lines
  pub answered : AreAnswers own meter meter.down lines answers
  -- so of all that the lines deliver those are executed that are genuine with a counter above the commissioned one and those of all
  -- earlier genuine ones, and no others
  pub executed : AreExecuted own meter (meter.down ∷ []) (deliveries_in lines) (executed_among answers)
  -- the output has its text, or a front of it where a write failed: the whole one after status 0
  pub told : IsTrue sinks_tell → HasText (side_text meter answers) out
  pub whole : IsTrue sinks_tell → status ≡ statuses.Done → out.now.written ≡ side_text meter answers

-- the headline: the state was read to its end, and the meter that the words name heard the deliveries
pub record Headline (run : Run) : Type 0 where
  pub address : Address
  pub known : Known
  pub meter : Commissioned
  pub names : Names run address known
  pub commissioned : meter_with address known.starts ≡ Some meter
  pub begun : IsReadOut run.beginning
  pub hears : Hears known.own meter run.tx run.sinks_tell run.out run.status

-- no meter of the state has the address that the words name
pub record IsUncommissioned (run : Run) : Type 0 where
  pub address : Address
  pub known : Known
  pub names : Names run address known
  pub missing : meter_with address known.starts ≡ None

-- the cause of a status
abbrev pub IsCausedBy : Run → SideStatus → Type 0
IsCausedBy run statuses.Done = IsTrue run.sources_tell → IsReadOut run.tx
IsCausedBy run statuses.Words = address_in run.words ≡ None
IsCausedBy run statuses.ReadRoster = ReadFailed run.beginning
IsCausedBy run (statuses.Roster line cause) =
    IsTrue run.sources_tell → state_of run.beginning.before.left ≡ Err (faults.Roster line cause)
IsCausedBy run (statuses.State line cause) =
    IsTrue run.sources_tell → state_of run.beginning.before.left ≡ Err (faults.Line line cause)
IsCausedBy run statuses.Uncommissioned = IsTrue run.sources_tell → IsUncommissioned run
IsCausedBy run statuses.Read = ReadFailed run.tx
IsCausedBy run statuses.Cut = IsTrue run.sources_tell → is_over run.tx.before.left ≡ true
IsCausedBy run statuses.Write = WriteFailed run.out
IsCausedBy run statuses.Memory = Unit {0}

-- the words name a meter of the state, and its deliveries go on past a limit
pub record IsTooLong (run : Run) : Type 0 where
  pub address : Address
  pub known : Known
  pub meter : Commissioned
  pub names : Names run address known
  pub commissioned : meter_with address known.starts ≡ Some meter
  pub over : is_over run.tx.before.left ≡ true

-- such deliveries are cut, unless a read failed before the limit or there is no memory for the state
abbrev pub IsCut : SideStatus → Type 0
IsCut status = (status ≡ statuses.Cut) ⊎ ((status ≡ statuses.Read) ⊎ ((status ≡ statuses.ReadRoster) ⊎ (status ≡ statuses.Memory)))

-- nothing stands in the way
pub record IsFaultless (run : Run) : Type 0 where
  pub address : Address
  pub known : Known
  pub meter : Commissioned
  pub names : Names run address known
  pub commissioned : meter_with address known.starts ≡ Some meter
  pub within : is_over run.tx.before.left ≡ false
  pub beginning_steady : ReadFailed run.beginning → ⊥
  pub tx_steady : ReadFailed run.tx → ⊥
  pub out_steady : WriteFailed run.out → ⊥

-- a state that can be read leads to this status, unless there is no memory
abbrev pub IsUnlessUnread : SideStatus → SideStatus → Type 0
IsUnlessUnread wanted status = (status ≡ wanted) ⊎ ((status ≡ statuses.ReadRoster) ⊎ (status ≡ statuses.Memory))

pub record IsRun (run : Run) : Type 0 where
  -- after statuses 0, 5, 7 and 8
  pub headline : IsTrue (was_heard run.status) → IsTrue run.sources_tell → Headline run
  pub status_caused : IsCausedBy run run.status
  -- faulty words, a faulty roster or state and an address that isn't commissioned are refused, in this order, then deliveries past their
  -- limit; and where nothing stands in the way all is done
  pub words_refused : address_in run.words ≡ None → run.status ≡ statuses.Words
  pub beginning_refused : IsTrue run.sources_tell → (a : Address) (fault : StateFault) → address_in run.words ≡ Some a
      → state_of run.beginning.before.left ≡ Err fault → IsUnlessUnread (status_of fault) run.status
  pub meter_refused : IsTrue run.sources_tell → IsUncommissioned run → IsUnlessUnread statuses.Uncommissioned run.status
  pub too_long_cut : IsTrue run.sources_tell → IsTooLong run → IsCut run.status
  pub complete : IsTrue run.sources_tell → IsFaultless run → (run.status ≡ statuses.Done) ⊎ (run.status ≡ statuses.Memory)
  -- whatever happens, no byte is lost
  pub beginning_kept : IsTrue run.sources_tell → LosesNothing run.beginning
  pub tx_kept : IsTrue run.sources_tell → LosesNothing run.tx
  -- after the other statuses, want of memory among them, no delivery was read and nothing is written
  pub unread : was_heard run.status ≡ false → run.tx.now ≡ run.tx.before
  pub silent : was_heard run.status ≡ false → IsSilent run.out
