use Rattle.afl_fragments.proofs.EndLaws.{end_was_last, last_is_end}
use Rattle.afl_fragments.proofs.laws.end_is_the_last_heard.Goals as goal

pub returns : goal.returns
returns _ told part = (end_was_last told part, last_is_end told part)
