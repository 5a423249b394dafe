use Rattle.std.proofs.Common.{◌≡◌, ◌≤◌, ◌-◌, ◌++◌, false, IsTrue}
use Rattle.line_reader.specs.Reader.{given}
use Rattle.meter_side_main.specs.Session.{HasHeard}
use Rattle.meter_side_main.proofs.session.hear_source.Given as goal

abbrev pub invariant-lines : goal.invariant-lines
invariant-lines g l = record {
  goes_on : l.tx.reader.done ≡ false;
  longest : l.tx.longest ≡ 582;
  few : l.tx.reader.line ≤ 131072;
  heard : HasHeard g.P.Paper.takes g.S.Source.tells l.initial.listener l.initial.paper (given g.S.Source.taken l.tx.reader)
      l.listener l.paper;
  later : g.S.Source.faults l.initial.tx.reader.source ≤ g.S.Source.faults l.tx.reader.source;
  bytes : IsTrue g.S.Source.tells → g.S.Source.taken l.tx.reader.source ++ g.S.Source.left l.tx.reader.source
      ≡ g.S.Source.taken l.initial.tx.reader.source ++ g.S.Source.left l.initial.tx.reader.source;
}

abbrev pub decreases-lines : goal.decreases-lines
decreases-lines g l = 131072 - l.tx.reader.line
