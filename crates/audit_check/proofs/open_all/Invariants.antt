use Rattle.std.proofs.Common.{◌≡◌, vec_len}
use Rattle.audit_check.proofs.open_all.Given as goal

abbrev pub invariant-loop-name : goal.invariant-loop-name
invariant-loop-name g l = vec_len l.sources ≡ l.name-index
