-- What was read is told, or the stream ends.
use Rattle.std.proofs.lemmas.Result.{on_ok_weaker, IfErr-weaker}
use Rattle.line_feed.proofs.StreamEnds.{more_taken, nothing_left, goes_taken, ends_taken, ends_failed}
use Rattle.line_feed.proofs.streaming.tell_read.Goals as goal

pub returns-in-Ok-clause-told : goal.returns-in-Ok-clause-told
returns-in-Ok-clause-told g c =
    on_ok_weaker c.tell_count.result (λ told tells s.
    goes_taken g.T.StreamTeller.tells _ (c.in-Ok.ensures.ok tells).back (told _ s)) c.tell_count.ensures.told

pub returns-in-Ok-clause-more : goal.returns-in-Ok-clause-more
returns-in-Ok-clause-more g c =
    on_ok_weaker c.tell_count.result (λ some tells. more_taken _ _ _ (c.in-Ok.ensures.ok tells).back some) c.tell_count.ensures.some

pub returns-in-Ok-clause-ended : goal.returns-in-Ok-clause-ended
returns-in-Ok-clause-ended g c =
    IfErr-weaker c.tell_count.result _ _ (λ end ended tells s.
    ends_taken g.T.StreamTeller.tells _ (c.in-Ok.ensures.ok tells).back
    (ended _ _ s (λ none. nothing_left (c.in-Ok.ensures.ok tells) (c.in-Ok.ensures.end tells none)))) c.tell_count.ensures.ended

pub returns-in-Err-clause-ended : goal.returns-in-Err-clause-ended
returns-in-Err-clause-ended g c = λ tells s.
    ends_failed g.T.StreamTeller.tells (c.in-Err.ensures.err tells).back
