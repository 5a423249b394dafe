-- Statuses: their numbers, and which one an end of the lines makes.
use Rattle.std.specs.Prelude.{ℕ, ◌≡◌, ◌⊎◌, Bool, true, false}
use Rattle.meter_slots.specs.declared.counts.Ended.{Ended}
use Rattle.meter_slots.specs.declared.counts.Ended.TheVariants as ended
use Rattle.line_teller.specs.declared.ending.LinesEnd.{LinesEnd}
use Rattle.line_teller.specs.declared.ending.LinesEnd.TheVariants as ends
use Rattle.state_file.specs.declared.fault.StateFault.{StateFault}
use Rattle.state_file.specs.declared.fault.StateFault.TheVariants as faults
use Rattle.steps_main.specs.declared.status.StepsStatus.{StepsStatus}
use Rattle.steps_main.specs.declared.status.StepsStatus.TheVariants as statuses

-- the program's exit status
abbrev pub code_of : StepsStatus → ℕ
code_of statuses.Done = 0
code_of (statuses.Roster line cause) = 3
code_of (statuses.State line cause) = 3
code_of statuses.ReadState = 4
code_of statuses.Read = 5
code_of statuses.WriteNext = 7
code_of statuses.WriteSteps = 7
code_of statuses.Cut = 8
code_of statuses.Memory = 10

-- whether the receiver was heard, so after statuses 0, 5, 7 and 8
abbrev pub was_heard : StepsStatus → Bool
was_heard statuses.Done = true
was_heard statuses.Read = true
was_heard statuses.Cut = true
was_heard statuses.WriteNext = true
was_heard statuses.WriteSteps = true
was_heard _ = false

-- all was done, or there was no memory
abbrev pub IsDone : StepsStatus → Type 0
IsDone status = (status ≡ statuses.Done) ⊎ (status ≡ statuses.Memory)

-- the status of a beginning with this first fault
abbrev pub fault_status : StateFault → StepsStatus
fault_status (faults.Roster line cause) = statuses.Roster line cause
fault_status (faults.Line line cause) = statuses.State line cause
fault_status faults.Memory = statuses.Memory

-- a beginning with this first fault is refused for it, unless it can't be read or there is no memory
abbrev pub IsRefused : StateFault → StepsStatus → Type 0
IsRefused fault status = (status ≡ fault_status fault) ⊎ (status ≡ statuses.ReadState) ⊎ (status ≡ statuses.Memory)

-- no line of the receiver was read
abbrev pub IsUnread : StepsStatus → Type 0
IsUnread statuses.ReadState = Unit {0}
IsUnread (statuses.Roster line cause) = Unit {0}
IsUnread (statuses.State line cause) = Unit {0}
IsUnread _ = ⊥

-- how the counts name an end of the lines
abbrev pub ended_at : LinesEnd → Ended
ended_at ends.Done = ended.End
ended_at ends.Cut = ended.Cut
ended_at ends.Read = ended.ReadFault
ended_at ends.Write = ended.TxFault
ended_at ends.Memory = ended.Memory

-- ---- words of private contracts

-- the status of lines that ended so, where nothing behind them failed
abbrev pub status_of : LinesEnd → StepsStatus
status_of ends.Done = statuses.Done
status_of ends.Read = statuses.Read
status_of ends.Cut = statuses.Cut
status_of ends.Write = statuses.WriteSteps
status_of ends.Memory = statuses.Memory
