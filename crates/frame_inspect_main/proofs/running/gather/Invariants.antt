use Rattle.std.proofs.Common.{◌≡◌, ◌≤◌, ◌+◌, ◌-◌, ◌++◌, false, map, vec_len, IsTrue}
use Rattle.line_reader.specs.Reader.{given}
use Rattle.line_reader.specs.declared.lines.TheConstants.{LINES_MAX}
use Rattle.frame_inspect_main.specs.Items.{item_of}
use Rattle.frame_inspect_main.proofs.running.gather.Given as goal

abbrev pub invariant-lines : goal.invariant-lines
invariant-lines g l = record {
  goes_on : l.frames.reader.done ≡ false;
  longest : l.frames.longest ≡ 1024;
  few : l.frames.reader.line ≤ LINES_MAX;
  counted : vec_len l.items ≡ l.frames.reader.line;
  later : g.S.Source.faults l.fn.frames.reader.source ≤ g.S.Source.faults l.frames.reader.source;
  bytes : IsTrue g.S.Source.tells →
      g.S.Source.taken l.frames.reader.source ++ g.S.Source.left l.frames.reader.source
      ≡ g.S.Source.taken l.fn.frames.reader.source ++ g.S.Source.left l.fn.frames.reader.source;
  items : IsTrue g.S.Source.tells → l.items.items ≡ map item_of (given g.S.Source.taken l.frames.reader);
}

abbrev pub decreases-lines : goal.decreases-lines
decreases-lines g l = LINES_MAX + 1 - l.frames.reader.line
