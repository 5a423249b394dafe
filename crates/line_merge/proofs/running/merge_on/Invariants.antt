use Rattle.std.proofs.Common.{◌≤◌, length}
use Rattle.std.specs.Prelude.{IsTrue}
use Rattle.lists.specs.Each.{EachWith}
use Rattle.line_merge.specs.Readers.{IsAtHead, GoesOn, rests_of, all_to_come}
use Rattle.line_merge.specs.Steps.{StandsAfter}
use Rattle.line_merge.proofs.running.merge_on.Given as goal

abbrev pub invariant-lines : goal.invariant-lines
invariant-lines g l = record {
  few : length l.inputs ≤ 16;
  at_heads : EachWith (IsAtHead g.S.Source) l.inputs l.heads;
  goes_on : EachWith (GoesOn g.S.Source) l.initial.inputs l.inputs;
  stands : IsTrue g.S.Source.tells → IsTrue g.K.Sink.tells → StandsAfter l.numbered
      (rests_of g.S.Source l.initial.inputs l.initial.heads) (rests_of g.S.Source l.inputs l.heads)
      (g.K.Sink.written l.initial.out) (g.K.Sink.written l.out);
  later : g.K.Sink.faults l.initial.out ≤ g.K.Sink.faults l.out;
}

abbrev pub decreases-lines : goal.decreases-lines
decreases-lines g l = all_to_come l.inputs l.heads
