use Rattle.receivers.proofs.MacSessions.{macs_decide_over_all_receivers}
use Rattle.receivers.proofs.laws.macs_decide_over_all_receivers.Goals as goal

pub returns : goal.returns
returns _ = macs_decide_over_all_receivers
