use Rattle.std.proofs.Common.{◌≡◌, ◌≤◌, ◌+◌, ◌-◌, length, take, IsTrue}
use Rattle.line_reader.specs.Newlines.{newlines}
use Rattle.line_reader.proofs.SearchLemmas.{IsReading}
use Rattle.line_reader.proofs.search.find_end.Given as goal

abbrev pub invariant-reading : goal.invariant-reading
invariant-reading g l = record {
  searched : l.searched ≤ length l.held;
  alone : newlines (take l.searched l.held) ≡ 0;
  given_up : l.given_up ≤ l.most;
  later : g.S.Source.faults l.fn.source ≤ g.S.Source.faults l.source;
  line : IsTrue g.S.Source.tells
      → IsReading l.longest l.fn.held (g.S.Source.taken l.fn.source) (g.S.Source.left l.fn.source) (g.S.Source.taken l.source)
      (g.S.Source.left l.source) l.held l.given_up;
}

abbrev pub decreases-reading : goal.decreases-reading
decreases-reading g l = l.most + 1 - (l.given_up + length l.held)
