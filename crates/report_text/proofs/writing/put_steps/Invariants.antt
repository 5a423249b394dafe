use Rattle.std.proofs.Common.{drop}
use Rattle.paper.specs.Puts.{Puts}
use Rattle.report_text.specs.Report.{steps_text}
use Rattle.report_text.proofs.writing.put_steps.Given as goal

-- once the entries that are left are put, all are
abbrev pub invariant-loop-entry : goal.invariant-loop-entry
invariant-loop-entry g l = (q : g.row.P.Denot) → Puts g.P.Paper.takes l.paper (steps_text l.left (drop l.entry-index l.journal)) q
    → Puts g.P.Paper.takes l.initial.paper (steps_text l.readings l.journal) q
