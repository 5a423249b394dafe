-- The last line, or the lines of a read.
use Rattle.std.proofs.Common.{arith}
use Rattle.std.proofs.lemmas.Result.{on_ok_weaker, IfErr-weaker}
use Rattle.line_feed.proofs.StreamEnds.{some_taken, last_read, goes_front, stops_front}
use Rattle.line_feed.proofs.streaming.tell_count.Goals as goal

pub returns-then-count-eq0-clause-ended : goal.returns-then-count-eq0-clause-ended
returns-then-count-eq0-clause-ended g c = λ bytes left s closed.
    last_read g.T.StreamTeller.tells _ c.if-count-eq0.true (closed c.if-count-eq0.true)
    (c.tell_last.ensures.ended bytes s)

pub returns-clause-told : goal.returns-clause-told
returns-clause-told g c =
    on_ok_weaker c.tell_bytes.result (λ told bytes s. goes_front g.T.StreamTeller.tells c.front_of.ensures (told bytes s))
    c.tell_bytes.ensures.told

pub returns-clause-some : goal.returns-clause-some
returns-clause-some g c =
    let nonzero = c.if-count-eq0.false in
    on_ok_weaker c.tell_bytes.result (λ told. some_taken c.args.buffer.now c.args.count c.requires.within (omega arith))
    c.tell_bytes.ensures.no_text

pub returns-clause-ended : goal.returns-clause-ended
returns-clause-ended g c =
    IfErr-weaker c.tell_bytes.result _ _ (λ end ended bytes left s closed.
    stops_front g.T.StreamTeller.tells c.front_of.ensures (ended bytes s)) c.tell_bytes.ensures.ended

pub returns-clause-read : goal.returns-clause-read
returns-clause-read g c = c.tell_bytes.ensures.read
