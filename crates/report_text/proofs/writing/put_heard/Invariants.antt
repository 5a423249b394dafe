use Rattle.std.proofs.Common.{take}
use Rattle.std.specs.List.{flat_map}
use Rattle.paper.specs.Puts.{Puts}
use Rattle.report_text.specs.Report.{stranger_text}
use Rattle.report_text.proofs.writing.put_heard.Given as goal

abbrev pub invariant-loop-stranger : goal.invariant-loop-stranger
invariant-loop-stranger g l = Puts g.P.Paper.takes l.initial.paper (flat_map stranger_text (take l.stranger-index l.heard)) l.paper
