-- Read by read, and then the end.
use Rattle.std.proofs.Common.{◌∙◌, refl, arith}
use Rattle.line_feed.proofs.Cuts.{fresh_at}
use Rattle.line_feed.proofs.StreamReads.{goes_then, stream_ends, stream_cut}
use Rattle.line_feed.proofs.StreamEnds.{goes_fresh}
use Rattle.line_feed.proofs.streaming.tell_stream.Goals as goal

pub reads-init : goal.reads-init
reads-init g c =
    let stands = fresh_at c.new-begun.result (rw c.new-begun.ensures refl) (rw c.new-begun.ensures (refl, omega arith)) in
    record {
      longest = rw c.new-begun.ensures c.requires.longest;
      no_text = rw c.new-text.ensures refl;
      no_note = rw c.new-note.ensures refl;
      room = refl;
      stands = stands;
      fresh = rw c.new-begun.ensures refl;
      goes = λ tells. goes_fresh g.T.StreamTeller.tells (c.requires.fresh tells) stands;
      counted = λ tells. omega arith;
      later = omega arith;
      later_out = omega arith;
      later_notes = omega arith;
      bytes = λ tells. refl;
    }

pub reads-preserved : goal.reads-preserved
reads-preserved g c = record {
  longest = c.in_default-tell_read.ensures.longest;
  no_text = c.in_default-tell_read.ensures.no_text;
  no_note = c.in_default-tell_read.ensures.no_note;
  room = c.tell_read.ensures.room ∙ c.reads.invariant.room;
  stands = c.reads.invariant.stands;
  fresh = c.reads.invariant.fresh;
  goes = λ tells.
      goes_then g.T.StreamTeller.tells c.reads.invariant.later_notes c.tell_read.ensures.later_notes
      c.reads.invariant.stands (c.reads.invariant.goes tells)
      (c.in_default-tell_read.ensures.told tells ((c.reads.invariant.goes tells).stands));
  counted = λ tells. omega (arith, c.reads.invariant.counted tells, c.in_default-tell_read.ensures.more tells, c.in-Some.ensures.0);
  later = omega (arith, c.reads.invariant.later, c.tell_read.ensures.later);
  later_out = omega (arith, c.reads.invariant.later_out, c.tell_read.ensures.later_out);
  later_notes = omega (arith, c.reads.invariant.later_notes, c.tell_read.ensures.later_notes);
  bytes = λ tells. c.tell_read.ensures.bytes tells ∙ c.reads.invariant.bytes tells;
}

pub returns-in-Err-clause-ended : goal.returns-in-Err-clause-ended
returns-in-Err-clause-ended g c = λ tells.
    stream_ends g.T.StreamTeller.tells c.reads.invariant.later_notes c.tell_read.ensures.later_notes
    c.reads.invariant.fresh c.reads.invariant.stands (c.reads.invariant.goes tells)
    (c.in-Err.ensures.ended tells ((c.reads.invariant.goes tells).stands))

pub returns-in_default-clause-ended : goal.returns-in_default-clause-ended
returns-in_default-clause-ended g c = λ tells.
    stream_cut g.T.StreamTeller.tells c.reads.invariant.fresh
    (omega (arith, c.reads.invariant.counted tells, c.in_default.ensures)) (c.reads.invariant.goes tells)
