use Rattle.std.proofs.Common.{◌≡◌, map, take}
use Rattle.audit_check_main.specs.Hearing.{heard_input}
use Rattle.audit_check_main.proofs.hearing.hear_all.Given as goal

abbrev pub invariant-loop-input : goal.invariant-loop-input
invariant-loop-input l = l.heard.items ≡ map (heard_input l.meters) (take l.input-index l.inputs)
