use Rattle.line_accept.proofs.Fronts.{sent_again}
use Rattle.line_accept.proofs.laws.sent_again_is_taken.Goals as goal

pub returns : goal.returns
returns c = sent_again
