use Rattle.message_check.proofs.OpeningLaws.{checked_are_opened}
use Rattle.message_check.proofs.laws.checked_messages_are_opened.Goals as goal

pub returns : goal.returns
returns c = checked_are_opened
