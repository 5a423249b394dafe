use Rattle.std.proofs.Common.{subst}
use Rattle.step_text.specs.Numbers.{AreSmall}
use Rattle.step_text.proofs.ShownLines.{unframed_back}
use Rattle.step_text.proofs.unsaid.put_unframed_line.Goals as goal

pub returns-clause-reads_back : goal.returns-clause-reads_back
returns-clause-reads_back g c =
    unframed_back c.args.line c.args.fault c.show_number.ensures (subst AreSmall c.frame_cause-values.ensures.values c.show_values.ensures)
