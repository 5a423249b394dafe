use Rattle.std.specs.Process.{exit_status}
use Rattle.meter_side.proofs.Exits.{unopened_exit}
use Rattle.meter_side.proofs.cannot_open.Goals as goal

pub returns-clause-run : goal.returns-clause-run
returns-clause-run g c = unopened_exit (exit_status c.end.result) c.end.ensures
