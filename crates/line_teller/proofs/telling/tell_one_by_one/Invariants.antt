use Rattle.std.proofs.Common.{◌≡◌, ◌≤◌, ◌-◌, ◌++◌, [], false, IsTrue}
use Rattle.outer_io.specs.Shown.{sink_change}
use Rattle.line_reader.specs.Reader.{given}
use Rattle.line_teller.specs.Standing.{Stands}
use Rattle.line_teller.proofs.telling.tell_one_by_one.Given as goal

abbrev pub invariant-lines : goal.invariant-lines
invariant-lines g l = record {
  goes_on : l.reader.reader.done ≡ false;
  longest : l.reader.longest ≡ g.T.Teller.longest;
  few : l.reader.reader.line ≤ 131072;
  no_text : l.text.text ≡ [];
  no_note : l.note.text ≡ [];
  stands : IsTrue g.S.Source.tells
      → Stands g.T.Teller.tells l.initial.teller l.teller (given g.S.Source.taken l.reader.reader) l.reader.reader.line
      g.K.Sink.tells (sink_change g.K.Sink l.initial.out l.out) [] g.E.Sink.tells (sink_change g.E.Sink l.initial.notes l.notes);
  later : g.S.Source.faults l.initial.reader.reader.source ≤ g.S.Source.faults l.reader.reader.source;
  later_out : g.K.Sink.faults l.initial.out ≤ g.K.Sink.faults l.out;
  later_notes : g.E.Sink.faults l.initial.notes ≤ g.E.Sink.faults l.notes;
  bytes : IsTrue g.S.Source.tells → g.S.Source.taken l.reader.reader.source ++ g.S.Source.left l.reader.reader.source
      ≡ g.S.Source.taken l.initial.reader.reader.source ++ g.S.Source.left l.initial.reader.reader.source;
}

abbrev pub decreases-lines : goal.decreases-lines
decreases-lines g l = 131072 - l.reader.reader.line
