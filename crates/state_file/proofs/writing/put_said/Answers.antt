use Rattle.std.proofs.Common.{rules}
use Rattle.paper.proofs.Calls.{four_make}
use Rattle.state_file.specs.Printing.{said_text}
use Rattle.state_file.proofs.writing.put_said.Goals as goal

pub returns : goal.returns
unfolding said_text
returns g c = search (rules, four_make)
