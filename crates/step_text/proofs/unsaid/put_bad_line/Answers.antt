use Rattle.std.proofs.Common.{subst}
use Rattle.step_text.specs.Numbers.{AreSmall}
use Rattle.step_text.proofs.ShownLines.{bad_back}
use Rattle.step_text.proofs.unsaid.put_bad_line.Goals as goal

pub returns-clause-reads_back : goal.returns-clause-reads_back
returns-clause-reads_back g c =
    bad_back c.args.line c.args.bad c.show_number.ensures (subst AreSmall c.bad_cause-values.ensures.values c.show_values.ensures)
