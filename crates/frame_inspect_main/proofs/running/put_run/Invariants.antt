use Rattle.std.proofs.Common.{drop}
use Rattle.std.specs.List.{concat}
use Rattle.paper.specs.Puts.{Puts}
use Rattle.frame_inspect_main.proofs.running.put_run.Given as goal

-- once what is left is put, all is
abbrev pub invariant-loop-shown : goal.invariant-loop-shown
invariant-loop-shown g l = (q : g.row.P.Denot) → Puts g.P.Paper.takes l.paper (concat (drop l.shown-index l.run)) q
    → Puts g.P.Paper.takes l.initial.paper (concat l.run) q
