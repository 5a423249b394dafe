-- What the texts of a state and a roster come to.
use Rattle.std.specs.Prelude.{ℕ, ◌≡◌, Bool, List, Some, None, Ok, Err, IsTrue}
use Rattle.meter_address.specs.declared.address.Address.{Address}
use Rattle.outer_io.specs.Shown.{Change, SourceShown, ReadFailed}
use Rattle.roster_file.specs.Roster.{Enrolled, roster_of}
use Rattle.roster_file.specs.declared.roster.RosterFault.TheVariants as rosters
use Rattle.state_file.specs.Whole.{Known, state_of}
use Rattle.state_file.specs.declared.fault.StateFault.TheVariants as states
use Rattle.state_changes.specs.declared.status.ChangeStatus.{ChangeStatus}
use Rattle.state_changes.specs.declared.status.ChangeStatus.TheVariants as statuses
use Rattle.state_changes.specs.Merging.{merged}
use Rattle.state_changes.specs.Raising.{first_spent, raised}

-- this is the state of the one text, merged with the roster of the other
pub record IsMergedOf (state roster : List ℕ) (next : Known) : Type 0 where
  pub known : Known
  pub enrolled : Enrolled
  pub state_is : state_of state ≡ Ok known
  pub roster_is : roster_of roster ≡ Ok enrolled
  pub next_is : next ≡ merged known enrolled

-- this is the state of the text, raised
pub record IsRaisedOf (n : ℕ) (state : List ℕ) (next : Known) : Type 0 where
  pub known : Known
  pub state_is : state_of state ≡ Ok known
  pub fits : first_spent n known.starts ≡ None
  pub next_is : next ≡ raised n known

-- why a state isn't loaded
abbrev pub IsNoState : Bool → Change SourceShown → ChangeStatus → Type 0
IsNoState tells state statuses.ReadState = ReadFailed state
IsNoState tells state (statuses.StateRoster line cause) = IsTrue tells → state_of state.before.left ≡ Err (states.Roster line cause)
IsNoState tells state (statuses.State line cause) = IsTrue tells → state_of state.before.left ≡ Err (states.Line line cause)
IsNoState tells state statuses.Memory = Unit {0}
IsNoState tells state _ = ⊥

-- why a roster isn't loaded
abbrev pub IsNoRoster : Bool → Change SourceShown → ChangeStatus → Type 0
IsNoRoster tells roster statuses.ReadRoster = ReadFailed roster
IsNoRoster tells roster (statuses.Roster line cause) = IsTrue tells → roster_of roster.before.left ≡ Err (rosters.Line line cause)
IsNoRoster tells roster statuses.Memory = Unit {0}
IsNoRoster tells roster _ = ⊥

-- the text is a state
pub record HasState (state : List ℕ) : Type 0 where
  pub known : Known
  pub state_is : state_of state ≡ Ok known

-- the text is a state of which a meter's counter would pass 2^32 - 1
pub record HasSpent (n : ℕ) (state : List ℕ) (address : Address) : Type 0 where
  pub known : Known
  pub state_is : state_of state ≡ Ok known
  pub spent : first_spent n known.starts ≡ Some address

-- why a state isn't merged with a roster: the state's cause comes first
abbrev pub IsUnmerged : Bool → (state roster : Change SourceShown) → ChangeStatus → Type 0
IsUnmerged tells state roster statuses.ReadRoster = ReadFailed roster
IsUnmerged tells state roster (statuses.Roster line cause) =
    IsTrue tells → HasState state.before.left × (roster_of roster.before.left ≡ Err (rosters.Line line cause))
IsUnmerged tells state roster status = IsNoState tells state status

-- why a state isn't raised
abbrev pub IsUnraised : ℕ → Bool → Change SourceShown → ChangeStatus → Type 0
IsUnraised n tells state (statuses.Spent address) = IsTrue tells → HasSpent n state.before.left address
IsUnraised n tells state status = IsNoState tells state status
