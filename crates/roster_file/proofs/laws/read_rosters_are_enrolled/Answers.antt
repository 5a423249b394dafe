use Rattle.roster_file.proofs.Enrolling.{read_is_enrolled}
use Rattle.roster_file.proofs.laws.read_rosters_are_enrolled.Goals as goal

pub returns : goal.returns
returns c = read_is_enrolled
