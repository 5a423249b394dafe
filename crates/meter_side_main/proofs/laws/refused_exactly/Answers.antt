use Rattle.meter_side_main.proofs.Refusing.{refused_exactly}
use Rattle.meter_side_main.proofs.laws.refused_exactly.Goals as goal

pub returns : goal.returns
returns c = refused_exactly
