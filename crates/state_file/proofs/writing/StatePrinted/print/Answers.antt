use Rattle.std.proofs.Common.{rules}
use Rattle.paper.proofs.Calls.{four_make}
use Rattle.state_file.specs.Written.{state_text}
use Rattle.state_file.proofs.writing.StatePrinted.print.Goals as goal

pub returns : goal.returns
unfolding state_text
returns g c = search (rules, four_make)
