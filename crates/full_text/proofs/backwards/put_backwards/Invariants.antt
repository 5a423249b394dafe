use Rattle.std.proofs.Common.{◌≤◌, length, take}
use Rattle.paper.specs.Puts.{Puts}
use Rattle.full_text.specs.Values.{backwards}
use Rattle.full_text.proofs.backwards.put_backwards.Given as goal

-- once the bytes that are left are put, all are
abbrev pub invariant-bytes : goal.invariant-bytes
invariant-bytes g l = record {
  within : l.left ≤ length l.sent;
  text : (q : g.row.P.Denot) → Puts g.P.Paper.takes l.paper (backwards l.form (take l.left l.sent)) q
      → Puts g.P.Paper.takes l.initial.paper (backwards l.form l.sent) q;
}

abbrev pub decreases-bytes : goal.decreases-bytes
decreases-bytes g l = l.left
