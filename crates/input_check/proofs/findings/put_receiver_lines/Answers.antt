use Rattle.paper.proofs.Items.{one_at}
use Rattle.input_check.specs.Findings.{receiver_line}
use Rattle.input_check.proofs.findings.put_receiver_lines.Goals as goal

pub loop-faulty-preserved : goal.loop-faulty-preserved
loop-faulty-preserved g c =
    one_at (receiver_line c.args.receiver) c.args.first.now _ _ c.loop-faulty-test.true c.loop-faulty.invariant c.put_receiver_line.ensures
