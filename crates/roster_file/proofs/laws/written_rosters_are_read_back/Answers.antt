use Rattle.roster_file.proofs.Enrolling.{read_is_enrolled}
use Rattle.roster_file.proofs.ReadBack.{written_is_read}
use Rattle.roster_file.proofs.laws.written_rosters_are_read_back.Goals as goal

pub returns-clause-written : goal.returns-clause-written
returns-clause-written c = written_is_read

pub returns-clause-again : goal.returns-clause-again
returns-clause-again c = λ bytes r h. written_is_read r (read_is_enrolled bytes r h)
