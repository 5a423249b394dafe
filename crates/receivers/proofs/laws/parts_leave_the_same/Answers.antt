use Rattle.receivers.proofs.SessionParts.{parts_leave}
use Rattle.receivers.proofs.laws.parts_leave_the_same.Goals as goal

pub returns : goal.returns
returns _ = parts_leave
