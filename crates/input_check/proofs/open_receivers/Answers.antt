use Rattle.std.proofs.Common.{sym, arith}
use Rattle.input_check.proofs.open_receivers.Goals as goal

pub returns-in-Err-clause-stops : goal.returns-in-Err-clause-stops
returns-in-Err-clause-stops g c = (1, omega arith, sym c.in-Err.ensures)
