use Rattle.std.proofs.Common.{rules}
use Rattle.state_file.proofs.LeftPieces.{roster_pieces}
use Rattle.state_file.proofs.left.LeftRosterPrinted.print.Goals as goal

pub returns : goal.returns
returns g c = search (rules, roster_pieces)
