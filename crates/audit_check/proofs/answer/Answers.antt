use Rattle.std.proofs.Common.{sym, subst}
use Rattle.audit_check.specs.Exit.{IsRunExit}
use Rattle.audit_check.proofs.Exits.{run_exit}
use Rattle.audit_check.proofs.answer.Goals as goal

pub returns-clause-exit : goal.returns-clause-exit
returns-clause-exit g c files = subst IsRunExit (sym c.end.ensures) (run_exit _ files c.audit_run-status.ensures.run)
