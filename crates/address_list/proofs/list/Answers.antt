use Rattle.std.proofs.Common.{sym, subst}
use Rattle.address_list.specs.Exit.{IsRunExit}
use Rattle.address_list.proofs.Exits.{exit_of}
use Rattle.address_list.proofs.list.Goals as goal

pub returns-clause-exit : goal.returns-clause-exit
returns-clause-exit g c = subst IsRunExit (sym c.end.ensures) (exit_of c.list_addresses-lines.result)
