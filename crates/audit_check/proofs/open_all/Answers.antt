use Rattle.std.proofs.Common.{sym, arith}
use Rattle.audit_check.proofs.open_all.Goals as goal

pub returns-then-is_err-clause-exit : goal.returns-then-is_err-clause-exit
returns-then-is_err-clause-exit g c = (5, omega arith, sym c.end.ensures)
