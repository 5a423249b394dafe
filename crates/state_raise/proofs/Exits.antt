-- The exit statuses of raising.
use Rattle.std.proofs.Common.{ℕ, Bool, refl, arith}
use Rattle.outer_io.specs.Shown.{Change, SourceShown}
use Rattle.state_changes.specs.declared.status.ChangeStatus.{ChangeStatus}
use Rattle.state_changes.specs.declared.status.ChangeStatus.TheVariants as statuses
use Rattle.state_changes.specs.Loading.{IsUnraised}
use Rattle.state_changes.specs.Statuses.{code_of}
use Rattle.state_raise.specs.Exit.{IsRefusalExit}

pub refused_exit : (n : ℕ) (tells : Bool) (state : Change SourceShown) (status : ChangeStatus) → IsUnraised n tells state status
    → IsRefusalExit (code_of status)
refused_exit n tells state statuses.ReadState h = (1, omega arith, refl)
refused_exit n tells state (statuses.StateRoster line cause) h = (0, omega arith, refl)
refused_exit n tells state (statuses.State line cause) h = (0, omega arith, refl)
refused_exit n tells state (statuses.Spent address) h = (4, omega arith, refl)
refused_exit n tells state statuses.Memory h = (2, omega arith, refl)
refused_exit n tells state _ h = absurd h
