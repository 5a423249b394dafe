use Rattle.std.proofs.Common.{◌≡◌, false, take}
use Rattle.line_reader.specs.Lines.{is_over}
use Rattle.lists.specs.Each.{Each}
use Rattle.audit_check_main.proofs.auditing.first_over.Given as goal

abbrev pub invariant-loop-place : goal.invariant-loop-place
invariant-loop-place l = Each (λ input. is_over input ≡ false) (take l.place l.inputs)
