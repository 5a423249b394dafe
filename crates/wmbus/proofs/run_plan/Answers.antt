use Rattle.wmbus.proofs.Exits.{unopened_exit}
use Rattle.wmbus.proofs.run_plan.Goals as goal

pub returns : goal.returns
returns g c = unopened_exit _ c.end_unopened.ensures
