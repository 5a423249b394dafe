use Rattle.line_accept.proofs.Fronts.{one_run}
use Rattle.line_accept.proofs.laws.cut_runs_are_one.Goals as goal

pub returns : goal.returns
returns c = one_run
