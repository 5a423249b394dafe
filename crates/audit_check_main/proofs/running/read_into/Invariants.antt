use Rattle.std.proofs.Common.{◌-◌, ◌+◌, ◌≡◌, ◌≤◌, ◌++◌, IsTrue, vec_len}
use Rattle.audit_check_main.proofs.running.read_into.Given as goal

-- the bytes are those that were taken since the call began
abbrev pub invariant-reads : goal.invariant-reads
invariant-reads g l = record {
  later : g.S.Source.faults l.fn.source ≤ g.S.Source.faults l.source;
  left : IsTrue g.S.Source.tells → g.S.Source.left l.fn.source ≡ l.room.items ++ g.S.Source.left l.source;
  taken : IsTrue g.S.Source.tells → g.S.Source.taken l.source ≡ g.S.Source.taken l.fn.source ++ l.room.items;
}

abbrev pub decreases-reads : goal.decreases-reads
decreases-reads g l = l.most + 1 - vec_len l.room
