-- The exit statuses of a merge.
use Rattle.std.proofs.Common.{ℕ, zero, suc, refl, subst, arith}
use Rattle.line_merge.specs.declared.status.InputFault.{InputFault}
use Rattle.line_merge.specs.declared.status.InputFault.TheVariants as faults
use Rattle.line_merge.specs.declared.status.MergeStatus.{MergeStatus}
use Rattle.line_merge.specs.declared.status.MergeStatus.TheVariants as statuses
use Rattle.line_merge.specs.Statuses.{code_of, fault_code}
use Rattle.line_merge.specs.Exit.{IsRunExit, IsUnopened}

fault_exit : (fault : InputFault) → IsRunExit (fault_code fault)
fault_exit faults.Read = (1, omega arith, refl)
fault_exit faults.Cut = (3, omega arith, refl)
fault_exit faults.Long = (3, omega arith, refl)

-- each status of a merge is one of them
pub exit_of : (status : MergeStatus) → IsRunExit (code_of status)
exit_of statuses.Done = (0, omega arith, refl)
exit_of (statuses.Input faulty) = fault_exit faulty.fault
exit_of statuses.Write = (2, omega arith, refl)

-- a merge that can't begin has one of them too
pub unopened_exit : (status : ℕ) → IsUnopened status → IsRunExit status
unopened_exit status (zero, inside, is) = subst IsRunExit is (4, omega arith, refl)
unopened_exit status (suc zero, inside, is) = subst IsRunExit is (5, omega arith, refl)
unopened_exit status (suc (suc i), inside, is) = absurd (omega (arith, inside))
