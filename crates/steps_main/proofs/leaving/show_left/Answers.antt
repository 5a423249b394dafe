use Rattle.steps_main.proofs.Ends.{left_is_read}
use Rattle.steps_main.proofs.leaving.show_left.Goals as goal

pub returns : goal.returns
returns c = left_is_read c.args.own c.args.world.now c.show_long.ensures c.show_each.ensures
