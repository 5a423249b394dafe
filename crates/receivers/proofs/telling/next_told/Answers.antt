use Rattle.receivers.proofs.Tellings.{tells_line, tells_bad}
use Rattle.receivers.proofs.telling.next_told.Goals as goal

pub returns-in-Ok-Line-clause-told : goal.returns-in-Ok-Line-clause-told
returns-in-Ok-Line-clause-told g c tells =
    tells_line _ _ _ c.tell.result (rw c.in-Ok-Line.field-0-is at (c.in-Ok-Line.ensures.lines tells)) c.tell.ensures

pub returns-in-Ok-Bad-clause-told : goal.returns-in-Ok-Bad-clause-told
returns-in-Ok-Bad-clause-told g c tells = tells_bad _ _ _ (rw c.in-Ok-Bad.field-0-is at (c.in-Ok-Bad.ensures.lines tells))
