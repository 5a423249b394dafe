use Rattle.std.proofs.Common.{refl}
use Rattle.paper.proofs.Calls.{once, three_make}
use Rattle.line_merge.specs.Inputs.{line_text}
use Rattle.line_merge.proofs.lines.MergedLinePrinted.print.Goals as goal

pub returns : goal.returns
unfolding line_text
returns g c = three_make _ c.put_number_if.ensures (once c.put.ensures) c.put_text.ensures refl
