use Rattle.audit_check_main.proofs.SteppedLines.{known_kept}
use Rattle.audit_check_main.proofs.meter_steps.MeterSteps.known.Goals as goal

pub returns : goal.returns
returns c = λ slot start now h.
    known_kept slot start now _ _ _ h c.as_ref.ensures.value c.known.ensures.known
