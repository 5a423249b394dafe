-- The exit statuses.
use Rattle.std.specs.Prelude.{ℕ}
use Rattle.meter_name.specs.declared.status.NameStatus.{NameStatus}
use Rattle.meter_name.specs.declared.status.NameStatus.TheVariants as statuses

abbrev pub code_of : NameStatus → ℕ
code_of statuses.Done = 0
code_of (statuses.Words fault) = 2
code_of statuses.Write = 7
code_of statuses.Memory = 10
