use Rattle.std.proofs.Common.{Some, None, refl}
use Rattle.steps_main.proofs.Events.{event_so}
use Rattle.steps_main.proofs.telling.tell_event.Goals as goal

pub returns-in-None : goal.returns-in-None
returns-in-None c =
    event_so _ _ _ _ _ _ _ _ c.in_ok-answer.ensures.served c.in_ok-answer.ensures.after None _ c.in-None.is refl c.put_stranger_line.ensures.puts

pub returns-in-Some : goal.returns-in-Some
returns-in-Some c =
    event_so _ _ _ _ _ _ _ _ c.in_ok-answer.ensures.served c.in_ok-answer.ensures.after _ _ c.in-Some.is c.keep.ensures
    c.put_step_line.ensures.puts
