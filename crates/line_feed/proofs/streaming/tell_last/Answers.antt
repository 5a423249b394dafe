-- The last line of a stream, or none.
use Rattle.std.proofs.Common.{◌≡◌, Err, true, false, ap, sym, ◌∙◌}
use Rattle.line_feed.proofs.StreamReads.{ends_closed, ends_cut, ends_last, ends_in_last}
use Rattle.line_feed.proofs.streaming.tell_last.Goals as goal

pub returns-then-is_empty-clause-ended : goal.returns-then-is_empty-clause-ended
returns-then-is_empty-clause-ended g c = λ bytes s.
    ends_closed g.T.StreamTeller.tells (λ line keeps. (c.is_empty.ensures line keeps).0 c.if-is_empty.true) s

pub returns-in_default-clause-ended : goal.returns-in_default-clause-ended
returns-in_default-clause-ended g c = λ bytes s.
    ends_cut g.T.StreamTeller.tells c.in_default.ensures s

pub returns-in-Ok-clause-ended : goal.returns-in-Ok-clause-ended
returns-in-Ok-clause-ended g c = λ bytes s.
    ends_last g.T.StreamTeller.tells
    (λ line keeps none. let no_way : true ≡ false = sym ((c.is_empty.ensures line keeps).1 none) ∙ c.if-is_empty.false in cc)
    c.in-Some.ensures c.in-Ok.ensures.told s

pub returns-in-Err-clause-ended : goal.returns-in-Err-clause-ended
returns-in-Err-clause-ended g c = λ bytes s.
    ends_in_last g.T.StreamTeller.tells
    (λ line keeps none. let no_way : true ≡ false = sym ((c.is_empty.ensures line keeps).1 none) ∙ c.if-is_empty.false in cc)
    c.in-Some.ensures c.in-Err.ensures.ended s

pub returns-in-Err-clause-read : goal.returns-in-Err-clause-read
returns-in-Err-clause-read g c = λ is. c.in-Err.ensures.read (ap Err is)
