use Rattle.line_accept.proofs.Fronts.{alone}
use Rattle.line_accept.proofs.laws.each_sender_alone.Goals as goal

pub returns : goal.returns
returns c = alone
