use Rattle.both_ends.proofs.Sending.{none_over_sessions}
use Rattle.both_ends.proofs.none_is_executed_twice_over_sessions.Goals as goal

pub returns : goal.returns
returns c = none_over_sessions
