use Rattle.std.proofs.Common.{◌≡◌, ◌++◌, length}
use Rattle.state_file.specs.Whole.{no_meters}
use Rattle.input_check.specs.StateFaults.{faults_in}
use Rattle.input_check.proofs.state_faults.add_meter_faults.Given as goal

abbrev pub invariant-lines : goal.invariant-lines
invariant-lines l =
    l.initial.faults.items ++ faults_in no_meters l.initial.entries.entries l.initial.entries.end ≡ l.faults.items
    ++ faults_in l.meters l.entries.entries l.entries.end

abbrev pub decreases-lines : goal.decreases-lines
decreases-lines l = length l.entries.entries
