use Rattle.state_changes.proofs.States.{raised_are_states}
use Rattle.state_changes.proofs.laws.raised_states_are_states.Goals as goal

pub returns : goal.returns
returns _ = raised_are_states
