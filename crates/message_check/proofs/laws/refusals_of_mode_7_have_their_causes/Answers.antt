use Rattle.message_check.proofs.RefusalLaws7.{refused_exactly7}
use Rattle.message_check.proofs.laws.refusals_of_mode_7_have_their_causes.Goals as goal

pub returns : goal.returns
returns c = refused_exactly7
