use Rattle.std.proofs.Common.{rules}
use Rattle.paper.proofs.Calls.{three_make}
use Rattle.state_file.specs.Printing.{marks_text}
use Rattle.state_file.proofs.writing.put_marks.Goals as goal

pub returns : goal.returns
unfolding marks_text
returns g c = search (rules, three_make)
