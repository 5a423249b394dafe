use Rattle.state_file.proofs.RosterStates.{rosters_are_states}
use Rattle.state_file.proofs.laws.rosters_are_states.Goals as goal

pub returns : goal.returns
returns _ = rosters_are_states
