-- Why a session or steps can't begin.
use Rattle.std.specs.Prelude.{◌≡◌}
use Rattle.std.specs.Process.{exit_status}
use Rattle.wmbus_files.specs.declared.nodes.Unopened.{Unopened}
use Rattle.wmbus_files.specs.declared.nodes.Unopened.TheVariants.{Said, Memory}

-- a file that can't be opened, or that two words name, was said and is status 11; or there is no memory
abbrev pub IsUnopened : Unopened → Type 0
IsUnopened (Said code) = exit_status code ≡ 11
IsUnopened Memory = Unit {0}
