use Rattle.line_feed.proofs.ReadBack.{telegrams_are_whole}
use Rattle.line_feed.proofs.laws.telegrams_are_whole.Goals as goal

pub returns : goal.returns
returns c = telegrams_are_whole
