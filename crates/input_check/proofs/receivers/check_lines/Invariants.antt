use Rattle.std.proofs.Common.{◌≡◌, ◌≤◌, ◌-◌, ◌++◌, false, IsTrue}
use Rattle.line_reader.specs.Reader.{given}
use Rattle.input_check.specs.Finding.{IsFound}
use Rattle.input_check.proofs.receivers.check_lines.Given as goal

abbrev pub invariant-lines : goal.invariant-lines
invariant-lines g l = record {
  goes_on : l.lines.done ≡ false;
  few_lines : l.lines.line ≤ 131072;
  few : l.found.count ≤ l.lines.line;
  found : IsTrue g.S.Source.tells → IsFound (given g.S.Source.taken l.lines) l.lines.line l.found;
  later : g.S.Source.faults l.initial.lines.source ≤ g.S.Source.faults l.lines.source;
  bytes : IsTrue g.S.Source.tells → g.S.Source.taken l.lines.source ++ g.S.Source.left l.lines.source
      ≡ g.S.Source.taken l.initial.lines.source ++ g.S.Source.left l.initial.lines.source;
}

abbrev pub decreases-lines : goal.decreases-lines
decreases-lines g l = 131072 - l.lines.line
