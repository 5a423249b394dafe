use Rattle.std.proofs.Common.{sym, arith}
use Rattle.audit_check.proofs.cannot_open.Goals as goal

pub returns-clause-exit : goal.returns-clause-exit
returns-clause-exit g c = (6, omega arith, sym c.end.ensures)
