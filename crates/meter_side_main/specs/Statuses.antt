-- Statuses and their codes.
use Rattle.std.specs.Prelude.{ℕ, Bool, true, false}
use Rattle.state_file.specs.declared.fault.StateFault.{StateFault}
use Rattle.state_file.specs.declared.fault.StateFault.TheVariants as faults
use Rattle.state_file.specs.declared.load.StateLoadFault.{StateLoadFault}
use Rattle.state_file.specs.declared.load.StateLoadFault.TheVariants as loads
use Rattle.meter_side_main.specs.declared.session.DeliveriesEnd.{DeliveriesEnd}
use Rattle.meter_side_main.specs.declared.session.DeliveriesEnd.TheVariants as ends
use Rattle.meter_side_main.specs.declared.status.SideStatus.{SideStatus}
use Rattle.meter_side_main.specs.declared.status.SideStatus.TheVariants as statuses

-- the exit status of the program
abbrev pub code_of : SideStatus → ℕ
code_of statuses.Done = 0
code_of statuses.Words = 2
code_of (statuses.Roster line cause) = 3
code_of (statuses.State line cause) = 3
code_of statuses.ReadRoster = 4
code_of statuses.Read = 5
code_of statuses.Write = 7
code_of statuses.Cut = 8
code_of statuses.Memory = 10
code_of statuses.Uncommissioned = 12

-- whether the deliveries were heard, so after statuses 0, 5, 7 and 8
abbrev pub was_heard : SideStatus → Bool
was_heard statuses.Done = true
was_heard statuses.Read = true
was_heard statuses.Cut = true
was_heard statuses.Write = true
was_heard _ = false

-- the status where the source of deliveries ended so, and a write failed or none did: an end that is no `End` comes before the write
abbrev pub status_at : DeliveriesEnd → Bool → SideStatus
status_at ends.Cut failed = statuses.Cut
status_at ends.Fault failed = statuses.Read
status_at ends.End true = statuses.Write
status_at ends.End false = statuses.Done

-- the status of a text that is no state, and no roster
abbrev pub status_of : StateFault → SideStatus
status_of (faults.Roster line cause) = statuses.Roster line cause
status_of (faults.Line line cause) = statuses.State line cause
status_of faults.Memory = statuses.Memory

-- the status of a state that can't be loaded
abbrev pub refused_at : StateLoadFault → SideStatus
refused_at loads.Read = statuses.ReadRoster
refused_at (loads.Roster line cause) = statuses.Roster line cause
refused_at (loads.Line line cause) = statuses.State line cause
refused_at loads.Memory = statuses.Memory
