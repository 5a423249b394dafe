use Rattle.std.proofs.Common.{◌≡◌, length}
use Rattle.state_file.specs.Whole.{no_meters, starts_of}
use Rattle.state_file.proofs.reader.read_starts.Given as goal

abbrev pub invariant-lines : goal.invariant-lines
invariant-lines l = (starts_of no_meters l.initial.entries.entries l.initial.entries.end ≡ starts_of l.meters l.entries.entries l.entries.end)

abbrev pub decreases-lines : goal.decreases-lines
decreases-lines l = length l.entries.entries
