use Rattle.state_file.proofs.WholeLength.{written_is_read}
use Rattle.state_file.proofs.laws.written_states_are_read_back.Goals as goal

pub returns : goal.returns
returns _ = written_is_read
