-- The exit statuses of a check.
use Rattle.std.proofs.Common.{ℕ, zero, suc, true, false, Bool, Result, Ok, Err, refl, subst, arith}
use Rattle.input_check.specs.declared.states.Stop.{Stop}
use Rattle.input_check.specs.declared.states.Stop.TheVariants as stops
use Rattle.input_check.specs.Exit.{code_of, status_of, IsRunExit, IsUnopened}

-- each answer of a check has one of them
pub exit_of : (checked : Result Bool Stop) → IsRunExit (code_of (status_of checked))
exit_of (Ok false) = (0, omega arith, refl)
exit_of (Ok true) = (1, omega arith, refl)
exit_of (Err stops.Read) = (2, omega arith, refl)
exit_of (Err stops.Write) = (3, omega arith, refl)
exit_of (Err stops.Cut) = (4, omega arith, refl)
exit_of (Err stops.Memory) = (5, omega arith, refl)

-- a check that can't begin has one of them too
pub unopened_exit : (status : ℕ) → IsUnopened status → IsRunExit status
unopened_exit status (zero, inside, is) = subst IsRunExit is (5, omega arith, refl)
unopened_exit status (suc zero, inside, is) = subst IsRunExit is (6, omega arith, refl)
unopened_exit status (suc (suc i), inside, is) = absurd (omega (arith, inside))
