use Rattle.std.proofs.Common.{◌≡◌, drop}
use Rattle.state_changes.specs.Raising.{first_spent}
use Rattle.state_changes.proofs.raising.first_spent.Given as goal

-- the first one among those that are left is the first one among all
abbrev pub invariant-loop-start : goal.invariant-loop-start
invariant-loop-start l = first_spent l.by (drop l.start-index l.starts) ≡ first_spent l.by l.starts
