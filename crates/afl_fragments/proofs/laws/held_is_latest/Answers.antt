use Rattle.afl_fragments.proofs.LatestLaws.{held_was_last, last_is_held}
use Rattle.afl_fragments.proofs.laws.held_is_latest.Goals as goal

pub returns : goal.returns
returns _ told fid part = (held_was_last told fid part, last_is_held told fid part)
