use Rattle.std.proofs.Common.{◌≡◌, ◌++◌, map, take}
use Rattle.input_check.specs.Noticing.{stranger_note}
use Rattle.input_check.proofs.noticing.add_strangers.Given as goal

abbrev pub invariant-loop-place : goal.invariant-loop-place
invariant-loop-place l = l.notes.items ≡ l.initial.notes.items ++ map stranger_note (take l.place l.ranked)
