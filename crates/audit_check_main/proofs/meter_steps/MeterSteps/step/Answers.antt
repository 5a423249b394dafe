use Rattle.audit_check_main.proofs.SteppedLines.{stepped_on}
use Rattle.audit_check_main.proofs.meter_steps.MeterSteps.step.Goals as goal

pub returns-clause-stepped : goal.returns-clause-stepped
returns-clause-stepped c = λ slot start h.
    stepped_on slot start _ _ c.args.self.now _ c.args.source c.args.line c.args.event.now c.in_ok-served.served.outcome
    c.in_ok-served.served.reading _ c.keep.ensures h c.in_ok-served.ensures.same c.in_ok-served.ensures.outcome
    c.in_ok-served.ensures.after c.in_ok-served.ensures.reading _ c.as_ref.ensures.value c.put_step.ensures
