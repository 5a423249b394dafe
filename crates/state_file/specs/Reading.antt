-- Words of private contracts: what reading a line answers.
use Rattle.std.specs.Prelude.{◌≡◌, Result, Err}
use Rattle.state_file.specs.declared.cause.StateCause.{StateCause}
use Rattle.state_file.specs.declared.cause.LineFault.{LineFault}
use Rattle.state_file.specs.declared.cause.LineFault.TheVariants.{Cause, Memory}
use Rattle.state_file.specs.declared.fault.StateFault.{StateFault}
use Rattle.state_file.specs.declared.fault.StateFault.TheVariants as state

-- this is refused for a cause, unless there is no memory
abbrev pub IsRefusedFor : {A : Type 0} → Result A StateCause → LineFault → Type 0
IsRefusedFor r (Cause cause) = r ≡ Err cause
IsRefusedFor r Memory = Unit {0}

-- this is refused for the cause in a line, unless there is no memory
abbrev pub IsFaultOf : {A : Type 0} → Result A StateFault → StateFault → Type 0
IsFaultOf r (state.Roster line cause) = r ≡ Err (state.Roster line cause)
IsFaultOf r (state.Line line cause) = r ≡ Err (state.Line line cause)
IsFaultOf r state.Memory = Unit {0}
