use Rattle.state_changes.proofs.States.{merged_are_states}
use Rattle.state_changes.proofs.laws.merged_states_are_states.Goals as goal

pub returns : goal.returns
returns _ = merged_are_states
