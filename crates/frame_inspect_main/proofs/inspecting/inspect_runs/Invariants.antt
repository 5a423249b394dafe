use Rattle.std.proofs.Common.{length}
use Rattle.std.specs.List.{flat_map}
use Rattle.frame_inspect_main.proofs.Runs.{IsShownTo}
use Rattle.frame_inspect_main.proofs.inspecting.inspect_runs.Given as goal

-- the runs so far show what the workers before this one show
abbrev pub invariant-loop-run : goal.invariant-loop-run
invariant-loop-run g l =
    IsShownTo (g.L.Look.meaning l.look) l.items l.count (length l.yielded) (flat_map (λ run. run.items) l.runs.items)
