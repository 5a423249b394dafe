-- How a change ends.
use Rattle.std.specs.Prelude.{ℕ}
use Rattle.roster_file.specs.declared.load.LoadFault.{LoadFault}
use Rattle.roster_file.specs.declared.load.LoadFault.TheVariants as rosters
use Rattle.state_file.specs.declared.load.StateLoadFault.{StateLoadFault}
use Rattle.state_file.specs.declared.load.StateLoadFault.TheVariants as states
use Rattle.state_changes.specs.declared.status.ChangeStatus.{ChangeStatus}
use Rattle.state_changes.specs.declared.status.ChangeStatus.TheVariants as statuses

-- the exit status of the program
abbrev pub code_of : ChangeStatus → ℕ
code_of statuses.Done = 0
code_of statuses.Words = 2
code_of (statuses.StateRoster line cause) = 3
code_of (statuses.State line cause) = 3
code_of (statuses.Roster line cause) = 3
code_of statuses.ReadState = 4
code_of statuses.ReadRoster = 4
code_of statuses.Write = 7
code_of statuses.Memory = 10
code_of (statuses.Spent address) = 12

-- the status of a state that can't be loaded
abbrev pub of_state : StateLoadFault → ChangeStatus
of_state states.Read = statuses.ReadState
of_state (states.Roster line cause) = statuses.StateRoster line cause
of_state (states.Line line cause) = statuses.State line cause
of_state states.Memory = statuses.Memory

-- the status of a roster that can't be
abbrev pub of_roster : LoadFault → ChangeStatus
of_roster rosters.Read = statuses.ReadRoster
of_roster (rosters.Line line cause) = statuses.Roster line cause
of_roster rosters.Memory = statuses.Memory
