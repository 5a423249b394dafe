-- What the words of a run, and the state that it begins from, come to before any delivery is heard.
use Rattle.std.specs.Prelude.{ℕ, ◌≡◌, Bool, true, List, Some, None, Ok, Err, IsTrue}
use Rattle.meter_address.specs.declared.address.Address.{Address}
use Rattle.outer_io.specs.Shown.{Change, SourceShown, SinkShown, ReadFailed, IsReadOut}
use Rattle.state_file.specs.Whole.{Known, state_of}
use Rattle.state_file.specs.declared.fault.StateFault.TheVariants as faults
use Rattle.meter_side_main.specs.declared.status.SideStatus.{SideStatus}
use Rattle.meter_side_main.specs.declared.status.SideStatus.TheVariants as statuses
use Rattle.meter_side_main.specs.declared.top.Meter.{Meter}
use Rattle.meter_side_main.specs.Statuses.{was_heard}
use Rattle.meter_side_main.specs.Run.{address_in, meter_with, IsCausedBy}

-- the words name this meter of the state, which was read to its end
pub record IsNamed (words : List (List ℕ)) (beginning : Change SourceShown) (meter : Meter) : Type 0 where
  pub address : Address
  pub known : Known
  pub named : address_in words ≡ Some address
  pub known_is : state_of beginning.before.left ≡ Ok known
  pub own_is : meter.own ≡ known.own
  pub commissioned : meter_with address known.starts ≡ Some meter.commission
  pub read : IsReadOut beginning

-- the words name an address that no meter of the state has
pub record IsMissing (words : List (List ℕ)) (beginning : Change SourceShown) : Type 0 where
  pub address : Address
  pub known : Known
  pub named : address_in words ≡ Some address
  pub known_is : state_of beginning.before.left ≡ Ok known
  pub missing : meter_with address known.starts ≡ None

-- why no delivery is heard
abbrev pub IsRefused : List (List ℕ) → Bool → Change SourceShown → SideStatus → Type 0
IsRefused words tells beginning statuses.Words = address_in words ≡ None
IsRefused words tells beginning statuses.ReadRoster = ReadFailed beginning
IsRefused words tells beginning (statuses.Roster line cause) =
    IsTrue tells → state_of beginning.before.left ≡ Err (faults.Roster line cause)
IsRefused words tells beginning (statuses.State line cause) =
    IsTrue tells → state_of beginning.before.left ≡ Err (faults.Line line cause)
IsRefused words tells beginning statuses.Uncommissioned = IsTrue tells → IsMissing words beginning
IsRefused words tells beginning statuses.Memory = Unit {0}
IsRefused words tells beginning _ = ⊥

-- hearing the deliveries came to this status, which has its cause whatever the words and the state are
pub record IsHeardFor (tells : Bool) (tx : Change SourceShown) (out : Change SinkShown) (status : SideStatus) : Type 0 where
  pub heard : was_heard status ≡ true
  pub cause : (words : List (List ℕ)) (sinks_tell : Bool) (beginning : Change SourceShown) → IsCausedBy (record {
    words = words;
    sources_tell = tells;
    sinks_tell = sinks_tell;
    beginning = beginning;
    tx = tx;
    out = out;
    status = status;
  }) status
