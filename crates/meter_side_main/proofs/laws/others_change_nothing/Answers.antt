use Rattle.meter_side_main.proofs.Others.{others_change_nothing}
use Rattle.meter_side_main.proofs.laws.others_change_nothing.Goals as goal

pub returns : goal.returns
returns c = others_change_nothing
