use Rattle.std.proofs.Common.{drop, false}
use Rattle.paper.specs.Puts.{Puts}
use Rattle.full_text.specs.Said.{qualifiers_behind}
use Rattle.full_text.proofs.said.put_qualifiers.Given as goal

-- once the qualifiers that are left are put, all are
abbrev pub invariant-loop-qualifier : goal.invariant-loop-qualifier
invariant-loop-qualifier g l = (q : g.row.P.Denot)
    → Puts g.P.Paper.takes l.paper (qualifiers_behind l.later (drop l.qualifier-index l.qualifiers) l.unset) q
    → Puts g.P.Paper.takes l.initial.paper (qualifiers_behind false l.qualifiers l.unset) q
