-- Each line stands behind those before it, and the last step ends them.
use Rattle.std.proofs.Common.{◌∙◌, arith}
use Rattle.line_teller.proofs.Steps.{stands_on, ended_then}
use Rattle.line_teller.proofs.telling.tell_lines.Goals as goal

pub returns-in-Err-clause-ended : goal.returns-in-Err-clause-ended
returns-in-Err-clause-ended g c = λ tells.
    ended_then g.T.Teller.tells c.lines.invariant.later_notes c.tell_next.ensures.later_notes
    (c.lines.invariant.stands tells) (c.in-Err.ensures.ended tells)

pub lines-preserved : goal.lines-preserved
lines-preserved g c = record {
  goes_on = c.in_default.ensures.next.0;
  longest = c.tell_next.ensures.longest;
  few = c.tell_next.ensures.few;
  empty = c.in_default.ensures.empty;
  stands = λ tells.
      stands_on g.T.Teller.tells c.in_default.ensures.next.1 c.lines.invariant.later_notes
      c.tell_next.ensures.later_notes
      (c.lines.invariant.stands tells) (c.in_default.ensures.told tells);
  later = omega arith;
  later_out = omega arith;
  later_notes = omega arith;
  bytes = λ tells. c.tell_next.ensures.bytes tells ∙ c.lines.invariant.bytes tells;
}
