use Rattle.receivers.proofs.OneSession.{session_alone}
use Rattle.receivers.proofs.laws.one_receiver_makes_a_session.Goals as goal

pub returns : goal.returns
returns _ own commissions heard = session_alone own commissions heard
