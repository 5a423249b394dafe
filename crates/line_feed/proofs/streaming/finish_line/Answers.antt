-- The piece is added, and the line told; or there is no memory for it.
use Rattle.std.proofs.lemmas.Result.{on_ok_weaker, IfErr-weaker}
use Rattle.line_feed.proofs.StreamReads.{line_memory}
use Rattle.line_feed.proofs.streaming.finish_line.Goals as goal

pub returns-in-Ok-clause-told : goal.returns-in-Ok-clause-told
returns-in-Ok-clause-told g c =
    on_ok_weaker c.tell_open.result (λ told bytes s. told bytes c.args.piece.now c.args.begun.now
    (record { alone = c.requires.alone; same = c.in-Ok.ensures.finished; kept = c.in-Ok.ensures.kept }) s) c.tell_open.ensures.told

pub returns-in-Ok-clause-ended : goal.returns-in-Ok-clause-ended
returns-in-Ok-clause-ended g c =
    IfErr-weaker c.tell_open.result _ _ (λ end ended bytes rest s. ended bytes c.args.piece.now rest c.args.begun.now
    (record { alone = c.requires.alone; same = c.in-Ok.ensures.finished; kept = c.in-Ok.ensures.kept }) s) c.tell_open.ensures.ended

pub returns-in-Err-clause-ended : goal.returns-in-Err-clause-ended
returns-in-Err-clause-ended g c = λ bytes rest s.
    line_memory g.T.StreamTeller.tells c.args.piece.now rest c.requires.alone c.in-Err.ensures.memory s
