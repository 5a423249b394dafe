use Rattle.std.proofs.Common.{◌≡◌, ◌++◌, length, map}
use Rattle.input_check.specs.StateFaults.{behind_end}
use Rattle.input_check.proofs.state_faults.add_behind.Given as goal

abbrev pub invariant-lines : goal.invariant-lines
invariant-lines l = l.initial.faults.items ++ map behind_end l.initial.entries.entries ≡ l.faults.items ++ map behind_end l.entries.entries

abbrev pub decreases-lines : goal.decreases-lines
decreases-lines l = length l.entries.entries
