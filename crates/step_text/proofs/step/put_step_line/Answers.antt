use Rattle.std.proofs.Common.{subst}
use Rattle.step_text.specs.Numbers.{IsSmallOutcome}
use Rattle.step_text.proofs.ShownLines.{step_back}
use Rattle.step_text.proofs.step.put_step_line.Goals as goal

pub returns-clause-reads_back : goal.returns-clause-reads_back
returns-clause-reads_back g c =
    let served = c.args.served.now in
    step_back c.args.line c.args.address c.args.event.now served c.show_number.ensures
    (subst (λ r. IsSmallOutcome r served.outcome) c.as_ref-reading.ensures.value c.show_outcome.ensures)
