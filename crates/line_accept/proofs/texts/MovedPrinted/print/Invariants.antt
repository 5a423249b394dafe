use Rattle.std.proofs.Common.{take}
use Rattle.paper.specs.Puts.{Puts}
use Rattle.line_accept.specs.Answers.{moved_text}
use Rattle.line_accept.proofs.texts.MovedPrinted.print.Given as goal

abbrev pub invariant-loop-place : goal.invariant-loop-place
invariant-loop-place g l =
    Puts g.P.Paper.takes l.initial.paper (moved_text (take l.place l.self.firsts.now) (take l.place l.self.senders.now)) l.paper
