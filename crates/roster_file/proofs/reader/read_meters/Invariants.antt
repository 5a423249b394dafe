use Rattle.std.proofs.Common.{◌≡◌, [], length}
use Rattle.roster_file.specs.Roster.{meters_of}
use Rattle.roster_file.proofs.reader.read_meters.Given as goal

abbrev pub invariant-lines : goal.invariant-lines
invariant-lines l = meters_of l.version [] l.initial.entries.entries ≡ meters_of l.version l.meters.items l.entries.entries

abbrev pub decreases-lines : goal.decreases-lines
decreases-lines l = length l.entries.entries
