use Rattle.both_ends.proofs.Sending.{sent_are_executed}
use Rattle.both_ends.proofs.sent_are_executed.Goals as goal

pub returns : goal.returns
returns c = sent_are_executed
