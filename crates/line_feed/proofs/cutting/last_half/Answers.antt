-- What is shown of the file ends in the line that has no newline yet.
use Rattle.line_feed.proofs.Files.{ends_in_half}
use Rattle.line_feed.proofs.cutting.last_half.Goals as goal

pub returns-clause-half : goal.returns-clause-half
returns-clause-half g c = λ tells.
    ends_in_half _ _ _ _ _ c.split_at.ensures.front c.requires c.in-Ok.ensures.room (c.in-Ok.ensures.shown tells) c.half_len.ensures
