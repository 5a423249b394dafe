use Rattle.message_check.proofs.RefusalLaws.{refused_exactly5}
use Rattle.message_check.proofs.laws.refusals_of_mode_5_have_their_causes.Goals as goal

pub returns : goal.returns
returns c = refused_exactly5
