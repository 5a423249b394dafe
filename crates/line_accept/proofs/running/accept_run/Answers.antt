-- The senders were read, and the lines are answered by them; or they weren't.
use Rattle.std.proofs.Common.{refl}
use Rattle.line_accept.proofs.Runs.{answered_run, refused_run}
use Rattle.line_accept.proofs.running.accept_run.Goals as goal

pub returns-in-Ok : goal.returns-in-Ok
returns-in-Ok g c =
    answered_run _ (λ tells. record {
      senders = c.in-Ok.senders;
      senders_are = c.in-Ok.ensures.found tells;
      read = c.in-Ok.ensures.read tells;
      answered = c.answer_lines.ensures.answered tells;
    })
    (λ tells. (c.requires.untaken tells).1) c.answer_lines.ensures.cause c.load_senders.ensures.no_loss c.answer_lines.ensures.no_loss

pub returns-in-Err : goal.returns-in-Err
returns-in-Err g c = refused_run _ c.in-Err.ensures.refused (λ on. refl) c.load_senders.ensures.no_loss (λ tells. refl)
