use Rattle.std.proofs.Common.{rules}
use Rattle.state_file.proofs.StatePieces.{command_pieces}
use Rattle.state_file.proofs.writing.put_command.Goals as goal

pub returns : goal.returns
returns g c = search (rules, command_pieces)
