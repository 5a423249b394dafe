use Rattle.state_file.proofs.LeftBack.{left_roster_is_read, left_state_is_read}
use Rattle.state_file.proofs.showing.show_left.Goals as goal

pub returns-clause-state : goal.returns-clause-state
returns-clause-state c = left_state_is_read c.args.own c.args.slots.now c.show_long.ensures c.requires c.show_slots.ensures

pub returns-clause-roster : goal.returns-clause-roster
returns-clause-roster c = left_roster_is_read c.args.own c.args.slots.now c.show_long.ensures c.requires c.show_slots.ensures
