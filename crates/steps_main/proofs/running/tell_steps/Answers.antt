use Rattle.std.proofs.Common.{refl}
use Rattle.steps_main.proofs.Runs.{told_run, unread_never, refused_run}
use Rattle.steps_main.proofs.running.tell_steps.Goals as goal

pub returns-in-Err-clause-run : goal.returns-in-Err-clause-run
returns-in-Err-clause-run g c = refused_run _ c.in-Err.ensures.refusal refl refl c.known.ensures.no_loss refl

pub returns-in_default-clause-run : goal.returns-in_default-clause-run
returns-in_default-clause-run g c = refused_run _ tt refl refl c.known.ensures.no_loss refl

pub returns-clause-run : goal.returns-clause-run
returns-clause-run g c =
    told_run _ c.in-Ok.state _ _ _ _ _ _ _ _ c.own-own.ensures c.into_starts.ensures.starts c.in-Ok.ensures.found c.in-Ok.ensures.read
    c.known.ensures.no_loss
    c.into_starts.ensures.room c.in-Ok-new.ensures c.tell_lines-end.ensures.ended c.tell_lines-end.ensures.read c.tell_lines-end.ensures.write
    c.tell_lines-end.ensures.later_out c.tell_lines-end.ensures.bytes c.show_left.ensures c.finish.ensures.finishes

pub returns-clause-unread : goal.returns-clause-unread
returns-clause-unread g c = λ unread. absurd (unread_never _ c.finish.ensures.finishes unread)
