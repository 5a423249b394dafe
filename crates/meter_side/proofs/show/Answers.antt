use Rattle.std.specs.Process.{exit_status}
use Rattle.meter_side.proofs.Exits.{told_exit}
use Rattle.meter_side.proofs.show.Goals as goal

pub returns-clause-run : goal.returns-clause-run
returns-clause-run g c = told_exit c.code-unwritten.result (exit_status c.tell.result) c.code-unwritten.ensures c.tell.ensures
