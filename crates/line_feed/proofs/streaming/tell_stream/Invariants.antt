use Rattle.std.proofs.Common.{◌≡◌, ◌≤◌, ◌-◌, ◌^◌, ◌++◌, [], length, IsTrue}
use Rattle.outer_io.specs.Shown.{sink_change}
use Rattle.line_feed.specs.Opened.{StandsAt}
use Rattle.line_feed.specs.Streams.{Goes}
use Rattle.line_feed.proofs.streaming.tell_stream.Given as goal

abbrev pub invariant-reads : goal.invariant-reads
invariant-reads g l = record {
  longest : l.begun.longest ≡ g.T.StreamTeller.longest;
  no_text : l.text.text ≡ [];
  no_note : l.note.text ≡ [];
  room : length l.buffer ≡ 16384;
  stands : StandsAt [] l.initial.begun;
  fresh : l.initial.begun.finished ≡ 0;
  goes : IsTrue g.S.Source.tells
      → Goes g.T.StreamTeller.tells [] (g.S.Source.taken l.source) l.initial.begun l.begun l.initial.teller l.teller
      g.K.Sink.tells (sink_change g.K.Sink l.initial.out l.out) g.E.Sink.tells (sink_change g.E.Sink l.initial.notes l.notes);
  counted : IsTrue g.S.Source.tells → l.reads ≤ length (g.S.Source.taken l.source);
  later : g.S.Source.faults l.initial.source ≤ g.S.Source.faults l.source;
  later_out : g.K.Sink.faults l.initial.out ≤ g.K.Sink.faults l.out;
  later_notes : g.E.Sink.faults l.initial.notes ≤ g.E.Sink.faults l.notes;
  bytes : IsTrue g.S.Source.tells → g.S.Source.taken l.source ++ g.S.Source.left l.source
      ≡ g.S.Source.taken l.initial.source ++ g.S.Source.left l.initial.source;
}

abbrev pub decreases-reads : goal.decreases-reads
decreases-reads g l = 2 ^ 64 - 1 - l.reads
