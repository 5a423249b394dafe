use Rattle.line_merge.specs.Least.{IsBest}
use Rattle.line_merge.proofs.choice.least.Given as goal

abbrev pub invariant-loop-place : goal.invariant-loop-place
invariant-loop-place l = IsBest l.heads l.place l.best
