use Rattle.std.proofs.Common.{sym, subst}
use Rattle.usage_totals.specs.Exit.{IsRunExit}
use Rattle.usage_totals.proofs.Exits.{run_exit}
use Rattle.usage_totals.proofs.answer_edits.Goals as goal

pub returns-clause-exit : goal.returns-clause-exit
returns-clause-exit g c right =
    subst IsRunExit (sym c.end.ensures) (run_exit _ right c.totals_run-status.ensures)
