use Rattle.state_file.proofs.ReadStates.{read_is_state}
use Rattle.state_file.proofs.WholeLength.{written_is_read}
use Rattle.state_file.proofs.laws.read_states_are_read_again.Goals as goal

pub returns : goal.returns
returns _ = λ bytes s h. written_is_read s (read_is_state bytes s h)
