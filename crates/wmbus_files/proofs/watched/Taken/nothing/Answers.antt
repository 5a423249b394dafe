use Rattle.std.proofs.Common.{refl}
use Rattle.wmbus_files.proofs.Counts.{count_of_nothing}
use Rattle.wmbus_files.proofs.watched.Taken.nothing.Goals as goal

pub returns : goal.returns
returns c = count_of_nothing _ refl
