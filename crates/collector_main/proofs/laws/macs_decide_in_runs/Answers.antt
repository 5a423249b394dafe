use Rattle.collector_main.proofs.MacRuns.{macs_decide_in_runs}
use Rattle.collector_main.proofs.laws.macs_decide_in_runs.Goals as goal

pub returns : goal.returns
returns _ = macs_decide_in_runs
