use Rattle.std.proofs.Common.{take}
use Rattle.std.specs.List.{flat_map}
use Rattle.paper.specs.Puts.{Puts}
use Rattle.report_text.specs.Report.{pending_text}
use Rattle.report_text.proofs.writing.put_pending.Given as goal

abbrev pub invariant-loop-place : goal.invariant-loop-place
invariant-loop-place g l = Puts g.P.Paper.takes l.initial.paper (flat_map pending_text (take l.place l.queue.commands)) l.paper
