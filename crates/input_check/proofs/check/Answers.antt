use Rattle.std.proofs.Common.{sym, subst, ◌∙◌, ap}
use Rattle.input_check.specs.Exit.{code_of, IsRunExit}
use Rattle.input_check.proofs.Exits.{exit_of}
use Rattle.input_check.proofs.check.Goals as goal

pub returns-clause-run : goal.returns-clause-run
returns-clause-run g c =
    (c.check_inputs-checked.result, c.end.ensures ∙ ap code_of c.status_of.ensures, c.check_inputs-checked.ensures.run)

pub returns-clause-exit : goal.returns-clause-exit
returns-clause-exit g c =
    subst IsRunExit (sym (c.end.ensures ∙ ap code_of c.status_of.ensures)) (exit_of c.check_inputs-checked.result)
