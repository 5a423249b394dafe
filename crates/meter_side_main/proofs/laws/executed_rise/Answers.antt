use Rattle.meter_side_main.proofs.Executing.{executed_rises}
use Rattle.meter_side_main.proofs.laws.executed_rise.Goals as goal

pub returns : goal.returns
returns c = λ own m deliveries. executed_rises own m m.down deliveries
