use Rattle.std.proofs.Common.{sym, arith}
use Rattle.state_raise.proofs.raise.Goals as goal

pub returns-in-Err : goal.returns-in-Err
returns-in-Err g c = (3, omega arith, sym c.in-Err.ensures)
