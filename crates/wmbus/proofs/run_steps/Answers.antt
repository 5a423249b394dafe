use Rattle.wmbus.proofs.Exits.{unopened_steps_exit}
use Rattle.wmbus.proofs.run_steps.Goals as goal

pub returns : goal.returns
returns g c = unopened_steps_exit _ c.end_unopened.ensures
