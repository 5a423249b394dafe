use Rattle.std.proofs.Common.{◌≤◌, ◌-◌}
use Rattle.made_input.proofs.HeardRuns.{IsHeardTo}
use Rattle.made_input.proofs.runs.run_behind.Given as goal

abbrev pub invariant-groups : goal.invariant-groups
invariant-groups l = (l.made ≤ l.count) × IsHeardTo l.meters l.before l.count l.made l.run

abbrev pub decreases-groups : goal.decreases-groups
decreases-groups l = l.count - l.made
