use Rattle.std.proofs.Common.{sym, subst}
use Rattle.frame_inspect.specs.Exit.{IsRecordsExit}
use Rattle.frame_inspect.proofs.Exits.{records_exit}
use Rattle.frame_inspect.proofs.show_with_records.Goals as goal

pub returns-clause-run : goal.returns-clause-run
returns-clause-run g c = (c.show_records-status.result, c.end_records.ensures, c.show_records-status.ensures)

pub returns-clause-exit : goal.returns-clause-exit
returns-clause-exit g c = subst IsRecordsExit (sym c.end_records.ensures) (records_exit c.show_records-status.result)
