use Rattle.std.proofs.Common.{rules}
use Rattle.state_file.proofs.LeftPieces.{state_pieces}
use Rattle.state_file.proofs.left.LeftStatePrinted.print.Goals as goal

pub returns : goal.returns
returns g c = search (rules, state_pieces)
