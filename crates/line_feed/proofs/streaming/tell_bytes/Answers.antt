-- Line by line, and then what is open.
use Rattle.std.proofs.Common.{refl, arith}
use Rattle.std.proofs.lemmas.Result.{on_ok_weaker}
use Rattle.line_teller.proofs.Steps.{by_memory}
use Rattle.line_feed.proofs.StreamReads.{goes_none, goes_piece, goes_rest, stops_piece, stops_rest}
use Rattle.line_feed.proofs.streaming.tell_bytes.Goals as goal

pub lines-init : goal.lines-init
lines-init g c = record {
  within = omega arith;
  longest = c.requires.longest;
  no_text = c.requires.no_text;
  no_note = c.requires.no_note;
  goes = λ bytes s. goes_none g.T.StreamTeller.tells s;
  later_out = omega arith;
  later_notes = omega arith;
}

pub lines-preserved : goal.lines-preserved
lines-preserved g c = record {
  within = c.in-Some.ensures.within;
  longest = c.in_default-finish_line.ensures.longest;
  no_text = c.in_default-finish_line.ensures.no_text;
  no_note = c.in_default-finish_line.ensures.no_note;
  goes = λ bytes s.
      goes_piece g.T.StreamTeller.tells c.lines.invariant.later_notes
      c.finish_line.ensures.later_notes c.piece_of-piece.ensures c.in-Some.ensures s (c.lines.invariant.goes bytes s)
      c.in_default-finish_line.ensures.told;
  later_out = omega (arith, c.lines.invariant.later_out, c.finish_line.ensures.later_out);
  later_notes = omega (arith, c.lines.invariant.later_notes, c.finish_line.ensures.later_notes);
}

pub returns-in-Err-clause-ended : goal.returns-in-Err-clause-ended
returns-in-Err-clause-ended g c = λ bytes s.
    stops_piece g.T.StreamTeller.tells c.lines.invariant.later_notes
    c.finish_line.ensures.later_notes c.piece_of-piece.ensures c.in-Some.ensures s (c.lines.invariant.goes bytes s) c.in-Err.ensures.ended

pub returns-in_default-clause-told : goal.returns-in_default-clause-told
returns-in_default-clause-told g c =
    on_ok_weaker c.add.result (λ kept bytes s. goes_rest g.T.StreamTeller.tells _ _ c.rest_of.ensures c.in_default.ensures
    c.add.ensures.finished kept (c.lines.invariant.goes bytes s)) c.add.ensures.kept

pub returns-in_default-clause-ended : goal.returns-in_default-clause-ended
returns-in_default-clause-ended g c =
    by_memory c.add.result _ c.add.ensures.memory (λ bytes s.
    stops_rest g.T.StreamTeller.tells _ _ c.lines.invariant.later_notes c.in_default.ensures s
    (c.lines.invariant.goes bytes s))
