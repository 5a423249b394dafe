use Rattle.meter_side_main.proofs.Genuineness.{genuine_are_told}
use Rattle.meter_side_main.proofs.laws.genuine_are_told.Goals as goal

pub returns : goal.returns
returns c = genuine_are_told
