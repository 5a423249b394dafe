use Rattle.paper.proofs.Items.{one_at}
use Rattle.input_check.specs.Findings.{fault_line}
use Rattle.input_check.proofs.findings.put_fault_lines.Goals as goal

pub loop-fault-preserved : goal.loop-fault-preserved
loop-fault-preserved g c = one_at fault_line c.args.faults.now _ _ c.loop-fault-test.true c.loop-fault.invariant c.put_fault_line.ensures
