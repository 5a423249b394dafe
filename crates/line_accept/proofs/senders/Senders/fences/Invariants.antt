use Rattle.std.proofs.Common.{◌≡◌, take}
use Rattle.std.specs.Map.{values_of}
use Rattle.line_accept.proofs.senders.Senders.fences.Given as goal

abbrev pub invariant-loop-place : goal.invariant-loop-place
invariant-loop-place l = l.fences.items ≡ take l.place (values_of l.self-inside.fences.entries)
