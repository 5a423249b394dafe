use Rattle.afl_fragments.proofs.MessageLaws.{assembled_is, is_assembled}
use Rattle.afl_fragments.proofs.laws.message_is_joined.Goals as goal

pub returns : goal.returns
returns _ hs m = (assembled_is hs m, is_assembled hs m)
