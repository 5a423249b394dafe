use Rattle.made_input.proofs.Genuine.{uplinks_are_genuine}
use Rattle.made_input.proofs.laws.uplinks_are_genuine.Goals as goal

pub returns : goal.returns
returns _ = uplinks_are_genuine
