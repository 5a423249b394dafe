-- Statuses: their numbers, and that of a verdict.
use Rattle.std.specs.Prelude.{ℕ}
use Rattle.audit_check_main.specs.declared.verdict.Verdict.{Verdict}
use Rattle.audit_check_main.specs.declared.verdict.Verdict.TheVariants.{Yes, No}
use Rattle.audit_check_main.specs.declared.status.AuditStatus.{AuditStatus}
use Rattle.audit_check_main.specs.declared.status.AuditStatus.TheVariants as statuses

-- the program's exit status
abbrev pub code_of : AuditStatus → ℕ
code_of statuses.Yes = 0
code_of (statuses.No cause) = 12
code_of statuses.Words = 2
code_of statuses.ReadState = 4
code_of statuses.ReadReport = 13
code_of statuses.LongReport = 8
code_of (statuses.Read w) = 5
code_of statuses.Write = 7
code_of statuses.Memory = 10
code_of statuses.ReadNext = 14

-- the status of a verdict that is written
abbrev pub status_of : Verdict → AuditStatus
status_of Yes = statuses.Yes
status_of (No cause) = statuses.No cause
