use Rattle.std.proofs.Common.{length}
use Rattle.input_check.proofs.inputs.+check_receivers.Given as goal

abbrev pub decreases-check_receivers : goal.decreases-check_receivers
decreases-check_receivers g l = length l.receivers.now
