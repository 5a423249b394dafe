use Rattle.std.proofs.Common.{sym, subst}
use Rattle.line_merge.specs.Exit.{IsRunExit}
use Rattle.line_merge.proofs.Exits.{exit_of}
use Rattle.line_merge.proofs.merge.Goals as goal

pub returns-clause-exit : goal.returns-clause-exit
returns-clause-exit g c = subst IsRunExit (sym c.end.ensures) (exit_of c.merge_lines-status.result)
