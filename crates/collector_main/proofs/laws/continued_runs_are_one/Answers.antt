use Rattle.collector_main.proofs.Chains.{continued_runs_are_one}
use Rattle.collector_main.proofs.laws.continued_runs_are_one.Goals as goal

pub returns : goal.returns
returns _ = continued_runs_are_one
