use Rattle.message_check.proofs.OpeningLaws.{genuine_are_opened}
use Rattle.message_check.proofs.laws.genuine_messages_are_opened.Goals as goal

pub returns : goal.returns
returns c = genuine_are_opened
