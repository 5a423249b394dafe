use Rattle.made_input.proofs.OwnLines.{lines_are_own}
use Rattle.made_input.proofs.laws.lines_are_own.Goals as goal

pub returns : goal.returns
returns _ = lines_are_own
