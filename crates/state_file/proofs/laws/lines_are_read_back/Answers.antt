use Rattle.state_file.proofs.ReadBack.{lines_back}
use Rattle.state_file.proofs.laws.lines_are_read_back.Goals as goal

pub returns : goal.returns
returns _ = lines_back
