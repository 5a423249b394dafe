use Rattle.audit_check_main.proofs.InputReads.{InputsSo}
use Rattle.audit_check_main.proofs.running.read_inputs.Given as goal

abbrev pub invariant-loop-place : goal.invariant-loop-place
invariant-loop-place g l = InputsSo g.S.Source l.place l.fn.inputs.items l.inputs.items l.read.items
