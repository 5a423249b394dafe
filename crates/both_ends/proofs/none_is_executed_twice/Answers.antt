use Rattle.both_ends.proofs.Sending.{none_twice}
use Rattle.both_ends.proofs.none_is_executed_twice.Goals as goal

pub returns : goal.returns
returns c = none_twice
