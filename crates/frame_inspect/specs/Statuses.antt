-- The statuses of a run.
use Rattle.std.specs.Prelude.{ℕ}
use Rattle.line_teller.specs.declared.ending.LinesEnd.{LinesEnd}
use Rattle.line_teller.specs.declared.ending.LinesEnd.TheVariants as ends
use Rattle.roster_file.specs.declared.load.LoadFault.{LoadFault}
use Rattle.roster_file.specs.declared.load.LoadFault.TheVariants as faults
use Rattle.frame_inspect.specs.declared.status.RecordsStatus.{RecordsStatus}
use Rattle.frame_inspect.specs.declared.status.RecordsStatus.TheVariants as statuses

-- the program's exit status where lines ended so
abbrev pub code_of_end : LinesEnd → ℕ
code_of_end ends.Done = 0
code_of_end ends.Read = 5
code_of_end ends.Write = 7
code_of_end ends.Cut = 8
code_of_end ends.Memory = 10

-- the program's exit status
abbrev pub code_of : RecordsStatus → ℕ
code_of statuses.ReadRoster = 4
code_of (statuses.Roster line cause) = 3
code_of statuses.Memory = 10
code_of (statuses.Shown end) = code_of_end end

-- the status of a roster that can't be loaded
abbrev pub status_of : LoadFault → RecordsStatus
status_of faults.Read = statuses.ReadRoster
status_of (faults.Line line cause) = statuses.Roster line cause
status_of faults.Memory = statuses.Memory
