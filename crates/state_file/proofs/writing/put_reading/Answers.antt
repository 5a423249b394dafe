use Rattle.std.proofs.Common.{rules}
use Rattle.state_file.proofs.StatePieces.{reading_pieces}
use Rattle.state_file.proofs.writing.put_reading.Goals as goal

pub returns : goal.returns
returns g c = search (rules, reading_pieces)
