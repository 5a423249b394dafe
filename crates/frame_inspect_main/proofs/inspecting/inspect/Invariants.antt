use Rattle.std.proofs.Common.{◌≡◌}
use Rattle.std.specs.List.{flat_map}
use Rattle.frame_inspect_main.proofs.inspecting.inspect.Given as goal

abbrev pub invariant-loop-run : goal.invariant-loop-run
invariant-loop-run g l = l.all.items ≡ flat_map (λ run. run.items) l.yielded
