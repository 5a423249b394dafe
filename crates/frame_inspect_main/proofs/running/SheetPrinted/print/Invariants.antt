use Rattle.std.proofs.Common.{drop}
use Rattle.std.specs.List.{concat, flat_map}
use Rattle.paper.specs.Puts.{Puts}
use Rattle.frame_inspect_main.proofs.running.SheetPrinted.print.Given as goal

-- once what is left is put, all is
abbrev pub invariant-loop-run : goal.invariant-loop-run
invariant-loop-run g l = (q : g.row.P.Denot)
    → Puts g.P.Paper.takes l.paper (concat (flat_map (λ run. run.items) (drop l.run-index l.self.runs.now))) q
    → Puts g.P.Paper.takes l.initial.paper (concat (flat_map (λ run. run.items) l.self.runs.now)) q
