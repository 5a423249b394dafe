use Rattle.std.proofs.Common.{sym, subst}
use Rattle.outer_io.specs.Shown.{source_change}
use Rattle.state_raise.specs.Exit.{IsRefusalExit}
use Rattle.state_raise.proofs.Exits.{refused_exit}
use Rattle.state_raise.proofs.load.Goals as goal

pub returns-in-Err-clause-exit : goal.returns-in-Err-clause-exit
returns-in-Err-clause-exit g c =
    subst IsRefusalExit (sym c.end.ensures)
    (refused_exit c.args.by g.S.Source.tells (source_change g.S.Source c.args.state.now c.load_raised.new.state) c.in-Err.status
    c.in-Err.ensures.refused)
