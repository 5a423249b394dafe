use Rattle.line_accept.proofs.Fronts.{are_fronts}
use Rattle.line_accept.proofs.laws.taken_are_fronts.Goals as goal

pub returns : goal.returns
returns c = are_fronts
