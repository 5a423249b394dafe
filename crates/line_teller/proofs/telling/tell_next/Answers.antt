-- The last step: a text can't be written, or no more lines are told.
use Rattle.std.proofs.Common.{◌≡◌, ap}
use Rattle.line_teller.proofs.Steps.{by_write, stopped_by_write, stopped_quietly}
use Rattle.line_teller.proofs.telling.tell_next.Goals as goal

pub returns-in-Ok-clause-ended : goal.returns-in-Ok-clause-ended
returns-in-Ok-clause-ended g c =
    by_write _ _ _ _ c.pass_both.ensures.write c.pass_both.ensures.front (λ front tells.
    stopped_by_write g.T.Teller.tells c.hear_next.new.reader.reader.line c.in-Ok.ensures.next.1
    (c.in-Ok.ensures.heard tells) c.requires.empty front c.pass_both.ensures.noted)

pub returns-in-Err-clause-ended : goal.returns-in-Err-clause-ended
returns-in-Err-clause-ended g c = λ tells.
    stopped_quietly g.T.Teller.tells c.in-Err.end c.finish.result _ c.hear_next.new.text.text c.finish.ensures.end
    (c.in-Err.ensures.ends tells) (c.in-Err.ensures.first tells)
    (λ whole. ((c.in-Err.ensures.same whole).0, ap (λ k. k.text) (c.in-Err.ensures.same whole).1))
    c.finish.ensures.text c.finish.ensures.silent
