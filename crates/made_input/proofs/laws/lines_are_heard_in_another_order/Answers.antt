use Rattle.made_input.proofs.Orders.{heard_in_another_order}
use Rattle.made_input.proofs.laws.lines_are_heard_in_another_order.Goals as goal

pub returns : goal.returns
returns _ = heard_in_another_order
