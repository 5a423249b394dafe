use Rattle.steps_main.proofs.Alone.{own_alone}
use Rattle.steps_main.proofs.laws.own_lines_alone.Goals as goal

pub returns : goal.returns
returns _ = own_alone
