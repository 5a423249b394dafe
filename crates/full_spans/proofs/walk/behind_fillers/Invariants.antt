use Rattle.std.proofs.Common.{◌≡◌, drop}
use Rattle.full_spans.specs.Walk.{behind_fillers}
use Rattle.full_spans.proofs.walk.behind_fillers.Given as goal

abbrev pub invariant-loop-place : goal.invariant-loop-place
invariant-loop-place l = behind_fillers l.place (drop l.place l.bytes) ≡ behind_fillers l.from (drop l.from l.bytes)
