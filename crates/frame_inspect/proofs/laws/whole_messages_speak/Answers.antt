use Rattle.frame_inspect.proofs.WholeMessages.{whole_messages}
use Rattle.frame_inspect.proofs.laws.whole_messages_speak.Goals as goal

pub returns : goal.returns
returns c = whole_messages
