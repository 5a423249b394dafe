use Rattle.std.proofs.Common.{sym, subst}
use Rattle.reading_list.specs.Exit.{IsRunExit}
use Rattle.reading_list.proofs.Exits.{exit_of}
use Rattle.reading_list.proofs.list.Goals as goal

pub returns-clause-exit : goal.returns-clause-exit
returns-clause-exit g c asked = subst IsRunExit (sym c.end.ensures) (exit_of c.list_report-status.result)
