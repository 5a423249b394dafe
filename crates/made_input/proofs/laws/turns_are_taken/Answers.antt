use Rattle.made_input.proofs.OwnLines.{turns_are_taken}
use Rattle.made_input.proofs.laws.turns_are_taken.Goals as goal

pub returns : goal.returns
returns _ = turns_are_taken
