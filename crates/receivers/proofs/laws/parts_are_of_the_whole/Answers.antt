use Rattle.receivers.proofs.SessionParts.{parts_are}
use Rattle.receivers.proofs.laws.parts_are_of_the_whole.Goals as goal

pub returns : goal.returns
returns _ = parts_are
