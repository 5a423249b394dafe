use Rattle.std.proofs.Common.{◌≡◌, map}
use Rattle.made_input.specs.Runs.{lines_behind}
use Rattle.made_input.proofs.lines.lines.Given as goal

abbrev pub invariant-loop-place : goal.invariant-loop-place
invariant-loop-place l = map (λ line. line.items) l.lines.items ≡ lines_behind l.meters l.before l.place
