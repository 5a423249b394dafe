use Rattle.meter_slots.proofs.MacLaws.{macs_decide}
use Rattle.meter_slots.proofs.laws.macs_decide.Goals as goal

pub returns : goal.returns
returns _ = macs_decide
