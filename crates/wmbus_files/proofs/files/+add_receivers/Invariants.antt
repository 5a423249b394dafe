use Rattle.std.proofs.Common.{length}
use Rattle.wmbus_files.proofs.files.+add_receivers.Given as goal

abbrev pub decreases-add_receivers : goal.decreases-add_receivers
decreases-add_receivers g l = length l.names.now
