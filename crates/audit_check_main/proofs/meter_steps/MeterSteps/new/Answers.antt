use Rattle.audit_check_main.proofs.SteppedLines.{nothing_stepped}
use Rattle.audit_check_main.proofs.meter_steps.MeterSteps.new.Goals as goal

pub returns-clause-stepped : goal.returns-clause-stepped
returns-clause-stepped c = λ paper.
    nothing_stepped c.args.own c.args.start c.address.result c.mode.result c.resume.result paper c.address.ensures c.mode.ensures
    c.resume.ensures.own c.resume.ensures.start c.resume.ensures.after
