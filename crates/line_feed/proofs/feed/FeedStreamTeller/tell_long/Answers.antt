-- A line that is too long is noted, and nothing is fed.
use Rattle.paper.proofs.Calls.{none}
use Rattle.line_teller.proofs.Keeping.{told_by}
use Rattle.line_feed.proofs.FedLines.{feeds_left_out, long_heard}
use Rattle.line_feed.proofs.feed.FeedStreamTeller.tell_long.Goals as goal

pub returns : goal.returns
returns g c = λ line long.
    told_by _ _ _ _ _ _ _ _ none c.leave_out.ensures.note
    (feeds_left_out c.args.self.now _ c.args.number line _ (long_heard _ line long) c.leave_out.ensures.fed)
