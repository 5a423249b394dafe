use Rattle.state_file.proofs.ReadStates.{read_is_state}
use Rattle.state_file.proofs.laws.read_states_are_states.Goals as goal

pub returns : goal.returns
returns _ = read_is_state
