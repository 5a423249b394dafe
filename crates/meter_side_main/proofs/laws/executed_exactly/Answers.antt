use Rattle.meter_side_main.proofs.Executing.{executed_exactly}
use Rattle.meter_side_main.proofs.laws.executed_exactly.Goals as goal

pub returns : goal.returns
returns c = executed_exactly
