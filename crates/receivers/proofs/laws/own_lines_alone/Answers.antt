use Rattle.receivers.proofs.OrderLaws.{one_slot}
use Rattle.receivers.proofs.laws.own_lines_alone.Goals as goal

pub returns : goal.returns
returns _ own c all others slot again h h' lines order = one_slot own c all others slot again h h' lines order
