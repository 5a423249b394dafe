use Rattle.made_input.proofs.MadeRosters.{made_is_readable}
use Rattle.made_input.proofs.laws.made_sessions_are_readable.Goals as goal

pub returns : goal.returns
returns _ = made_is_readable
