-- How a merge ends.
use Rattle.std.specs.Prelude.{ℕ}
use Rattle.line_merge.specs.declared.status.InputFault.{InputFault}
use Rattle.line_merge.specs.declared.status.InputFault.TheVariants as faults
use Rattle.line_merge.specs.declared.status.MergeStatus.{MergeStatus}
use Rattle.line_merge.specs.declared.status.MergeStatus.TheVariants as statuses

-- the program's exit status
abbrev pub fault_code : InputFault → ℕ
fault_code faults.Read = 5
fault_code faults.Cut = 8
fault_code faults.Long = 8

abbrev pub code_of : MergeStatus → ℕ
code_of statuses.Done = 0
code_of (statuses.Input faulty) = fault_code faulty.fault
code_of statuses.Write = 7
