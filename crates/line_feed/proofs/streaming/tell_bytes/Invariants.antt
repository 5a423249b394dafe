use Rattle.std.proofs.Common.{ℕ, ◌≡◌, ◌≤◌, ◌-◌, ◌++◌, List, [], length, take}
use Rattle.outer_io.specs.Shown.{sink_change}
use Rattle.line_feed.specs.Opened.{StandsAt}
use Rattle.line_feed.specs.Streams.{Goes}
use Rattle.line_feed.proofs.streaming.tell_bytes.Given as goal

abbrev pub invariant-lines : goal.invariant-lines
invariant-lines g l = record {
  within : l.at ≤ length l.read;
  longest : l.begun.longest ≡ g.T.StreamTeller.longest;
  no_text : l.text.text ≡ [];
  no_note : l.note.text ≡ [];
  goes : (bytes : List ℕ) → StandsAt bytes l.initial.begun
      → Goes g.T.StreamTeller.tells bytes (bytes ++ take l.at l.read) l.initial.begun l.begun l.initial.teller l.teller
      g.K.Sink.tells (sink_change g.K.Sink l.initial.out l.out) g.E.Sink.tells (sink_change g.E.Sink l.initial.notes l.notes);
  later_out : g.K.Sink.faults l.initial.out ≤ g.K.Sink.faults l.out;
  later_notes : g.E.Sink.faults l.initial.notes ≤ g.E.Sink.faults l.notes;
}

abbrev pub decreases-lines : goal.decreases-lines
decreases-lines g l = length l.read - l.at
