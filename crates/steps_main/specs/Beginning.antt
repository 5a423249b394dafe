-- Words of private contracts: why a source gives no state.
use Rattle.std.specs.Prelude.{◌≡◌, Bool, Err, IsTrue}
use Rattle.outer_io.specs.Shown.{Change, SourceShown, ReadFailed}
use Rattle.state_file.specs.Whole.{state_of}
use Rattle.state_file.specs.declared.fault.StateFault.TheVariants as faults
use Rattle.steps_main.specs.declared.status.StepsStatus.{StepsStatus}
use Rattle.steps_main.specs.declared.status.StepsStatus.TheVariants as statuses

-- a fault of reading, the first fault of all its bytes, or want of memory
abbrev pub IsRefusal : Bool → Change SourceShown → StepsStatus → Type 0
IsRefusal tells source statuses.ReadState = ReadFailed source
IsRefusal tells source (statuses.Roster line cause) = IsTrue tells → state_of source.before.left ≡ Err (faults.Roster line cause)
IsRefusal tells source (statuses.State line cause) = IsTrue tells → state_of source.before.left ≡ Err (faults.Line line cause)
IsRefusal tells source statuses.Memory = Unit {0}
IsRefusal tells source _ = ⊥
