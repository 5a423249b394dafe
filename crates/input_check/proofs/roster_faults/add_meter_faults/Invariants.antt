use Rattle.std.proofs.Common.{◌≡◌, [], ◌++◌, length}
use Rattle.input_check.specs.RosterFaults.{faults_in}
use Rattle.input_check.proofs.roster_faults.add_meter_faults.Given as goal

abbrev pub invariant-lines : goal.invariant-lines
invariant-lines l =
    l.initial.faults.items ++ faults_in l.version [] l.initial.entries.entries ≡ l.faults.items
    ++ faults_in l.version l.meters.items l.entries.entries

abbrev pub decreases-lines : goal.decreases-lines
decreases-lines l = length l.entries.entries
