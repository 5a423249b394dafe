use Rattle.meter_side_main.proofs.Commissions.{rosters_commission}
use Rattle.meter_side_main.proofs.laws.rosters_commission.Goals as goal

pub returns : goal.returns
returns c = rosters_commission
