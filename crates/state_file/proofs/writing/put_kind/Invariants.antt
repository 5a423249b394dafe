use Rattle.std.proofs.Common.{◌≡◌, ◌≤◌, drop, length}
use Rattle.paper.specs.Puts.{Puts}
use Rattle.afl_fragments.specs.Held.{held}
use Rattle.state_file.specs.Printing.{kind_text, has_kind}
use Rattle.state_file.proofs.writing.put_kind.Given as goal

abbrev pub invariant-parts : goal.invariant-parts
invariant-parts g l =
    Puts g.P.Paper.takes l.initial.paper (kind_text l.fresh (drop l.left (held l.known.told))) l.paper
    × (l.any ≡ has_kind l.fresh (drop l.left (held l.known.told)))
    × (l.left ≤ length (held l.known.told))

abbrev pub decreases-parts : goal.decreases-parts
decreases-parts g l = l.left
