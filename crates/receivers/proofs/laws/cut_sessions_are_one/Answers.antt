use Rattle.receivers.proofs.SessionCuts.{cut_sessions}
use Rattle.receivers.proofs.laws.cut_sessions_are_one.Goals as goal

pub returns : goal.returns
returns _ = cut_sessions
