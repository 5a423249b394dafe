use Rattle.paper.specs.Puts.{Puts}
use Rattle.full_text.specs.Decimals.{zeros}
use Rattle.full_text.proofs.decimals.put_zeros.Given as goal

-- once the zeros that are left are put, all are
abbrev pub invariant-zeros : goal.invariant-zeros
invariant-zeros g l = (q : g.row.P.Denot) → Puts g.P.Paper.takes l.paper (zeros l.left) q
    → Puts g.P.Paper.takes l.initial.paper (zeros l.count) q

abbrev pub decreases-zeros : goal.decreases-zeros
decreases-zeros g l = l.left
