use Rattle.std.proofs.Common.{sym, subst, ◌∙◌}
use Rattle.frame_inspect.specs.Exit.{IsRunExit}
use Rattle.frame_inspect.proofs.Exits.{run_exit, done_exit}
use Rattle.frame_inspect.proofs.show.Goals as goal

pub returns-clause-run : goal.returns-clause-run
returns-clause-run g c = (c.inspect_run-status.result, c.end.ensures, c.inspect_run-status.ensures.run)

pub returns-clause-exit : goal.returns-clause-exit
returns-clause-exit g c = subst IsRunExit (sym c.end.ensures) (run_exit _ c.requires.words c.inspect_run-status.ensures.run)

pub returns-clause-done : goal.returns-clause-done
returns-clause-done g c zero tells writes = done_exit _ c.inspect_run-status.ensures.run (sym c.end.ensures ∙ zero) tells writes
