-- The line is told, or the stream ends in it.
use Rattle.line_feed.proofs.StreamReads.{open_goes, open_stops, open_cut}
use Rattle.line_feed.proofs.streaming.tell_open.Goals as goal

pub returns-in_default-clause-ended : goal.returns-in_default-clause-ended
returns-in_default-clause-ended g c = λ bytes piece rest before adds s.
    open_cut g.T.StreamTeller.tells rest adds c.in_default.ensures s

pub returns-in-Ok-clause-told : goal.returns-in-Ok-clause-told
returns-in-Ok-clause-told g c = λ bytes piece before adds s.
    open_goes g.T.StreamTeller.tells adds c.in-Some.ensures c.in-Ok.ensures.told
    c.begin_next.ensures s

pub returns-in-Err-clause-ended : goal.returns-in-Err-clause-ended
returns-in-Err-clause-ended g c = λ bytes piece rest before adds s.
    open_stops g.T.StreamTeller.tells rest adds c.in-Some.ensures c.in-Err.ensures.ended s
