use Rattle.std.proofs.Common.{◌∙◌, sym, subst}
use Rattle.wmbus.specs.Exit.{IsStepsExit}
use Rattle.wmbus.proofs.Exits.{steps_exit}
use Rattle.wmbus.proofs.stepwise.step_over.Goals as goal

pub returns-clause-run : goal.returns-clause-run
returns-clause-run g c = (c.tell_steps-status.result, c.end.ensures ∙ c.status_of.ensures, c.tell_steps-status.ensures.run)

pub returns-clause-exit : goal.returns-clause-exit
returns-clause-exit g c = subst IsStepsExit (sym (c.end.ensures ∙ c.status_of.ensures)) (steps_exit c.tell_steps-status.result)
