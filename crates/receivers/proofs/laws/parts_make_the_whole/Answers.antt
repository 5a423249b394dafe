use Rattle.receivers.proofs.SessionParts.{parts_make}
use Rattle.receivers.proofs.laws.parts_make_the_whole.Goals as goal

pub returns : goal.returns
returns _ = parts_make
