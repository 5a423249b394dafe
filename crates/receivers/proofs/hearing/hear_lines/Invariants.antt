-- Closes the loop of `hear_lines`.
use Rattle.std.proofs.Common.{◌≡◌, ◌≤◌, ◌+◌, ◌-◌, ◌++◌, false, IsTrue}
use Rattle.line_reader.specs.Reader.{given}
use Rattle.line_reader.specs.declared.lines.TheConstants.{LINES_MAX}
use Rattle.receivers.proofs.Onward.{HeardSoFar}
use Rattle.receivers.proofs.hearing.hear_lines.Given as goal

abbrev pub invariant-lines : goal.invariant-lines
invariant-lines g l = record {
  goes_on : l.lines.done ≡ false;
  few : l.lines.line ≤ LINES_MAX;
  at : l.counts.lines ≡ l.lines.line;
  later : g.S.Source.faults l.fn.lines.source ≤ g.S.Source.faults l.lines.source;
  bytes : IsTrue g.S.Source.tells →
      g.S.Source.taken l.lines.source ++ g.S.Source.left l.lines.source ≡ g.S.Source.taken l.fn.lines.source ++ g.S.Source.left
      l.fn.lines.source;
  ready : g.P.Slots.ready l.slots;
  fixed : g.P.Slots.fixed l.slots ≡ g.P.Slots.fixed l.fn.slots;
  so : HeardSoFar (g.P.Slots.makes (g.P.Slots.fixed l.fn.slots)) g.S.Source.tells (g.P.Slots.directory (g.P.Slots.fixed l.fn.slots))
      (given g.S.Source.taken l.lines) l.counts (l.fn.slots, l.fn.tx) (l.slots, l.tx);
}

abbrev pub decreases-lines : goal.decreases-lines
decreases-lines g l = LINES_MAX + 1 - l.lines.line
