use Rattle.receivers.proofs.HeardRuns.{heard_session}
use Rattle.receivers.proofs.laws.runs_are_a_session_of_their_lines.Goals as goal

pub returns : goal.returns
returns _ own commissions runs world known c = heard_session own commissions runs world known c
