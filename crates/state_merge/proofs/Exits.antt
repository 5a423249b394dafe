-- The exit statuses of a merge.
use Rattle.std.proofs.Common.{Bool, refl, arith}
use Rattle.outer_io.specs.Shown.{Change, SourceShown}
use Rattle.state_changes.specs.declared.status.ChangeStatus.{ChangeStatus}
use Rattle.state_changes.specs.declared.status.ChangeStatus.TheVariants as statuses
use Rattle.state_changes.specs.Loading.{IsUnmerged}
use Rattle.state_changes.specs.Statuses.{code_of}
use Rattle.state_merge.specs.Exit.{IsRefusalExit}

pub refused_exit : (tells : Bool) (state roster : Change SourceShown) (status : ChangeStatus) → IsUnmerged tells state roster status
    → IsRefusalExit (code_of status)
refused_exit tells state roster statuses.ReadState h = (1, omega arith, refl)
refused_exit tells state roster (statuses.StateRoster line cause) h = (0, omega arith, refl)
refused_exit tells state roster (statuses.State line cause) h = (0, omega arith, refl)
refused_exit tells state roster statuses.ReadRoster h = (1, omega arith, refl)
refused_exit tells state roster (statuses.Roster line cause) h = (0, omega arith, refl)
refused_exit tells state roster statuses.Memory h = (2, omega arith, refl)
refused_exit tells state roster _ h = absurd h
