use Rattle.std.proofs.Common.{length}
use Rattle.hex.specs.Hex.{encode_lower}
use Rattle.paper.specs.Puts.{Puts}
use Rattle.paper.proofs.pieces.put_hex.Given as goal

-- once the bytes that are left are put, all are
abbrev pub invariant-loop-left : goal.invariant-loop-left
invariant-loop-left g l =
    (q : g.row.P.Denot) → Puts g.P.Paper.takes l.paper (encode_lower l.left) q
    → Puts g.P.Paper.takes l.initial.paper (encode_lower l.bytes) q

abbrev pub decreases-loop-left : goal.decreases-loop-left
decreases-loop-left g l = length l.left
