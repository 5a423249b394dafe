-- The exit statuses of a run.
use Rattle.std.proofs.Common.{◌≡◌, true, false, refl, subst, arith}
use Rattle.std.specs.Prelude.{None, IsSome}
use Rattle.usage_totals.specs.declared.status.TotalsStatus.{TotalsStatus}
use Rattle.usage_totals.specs.declared.status.TotalsStatus.TheVariants as statuses
use Rattle.usage_totals.specs.Words.{totals_asked}
use Rattle.usage_totals.specs.Run.{Run, IsRun, IsCausedBy, code_of}
use Rattle.usage_totals.specs.Exit.{IsRunExit}

exit_of : (status : TotalsStatus) → (status ≡ statuses.Words → ⊥) → IsRunExit (code_of status)
exit_of statuses.Done other = (0, omega arith, refl)
exit_of statuses.Words other = absurd (other refl)
exit_of statuses.Read other = (1, omega arith, refl)
exit_of statuses.Cut other = (3, omega arith, refl)
exit_of statuses.Write other = (2, omega arith, refl)
exit_of statuses.Memory other = (4, omega arith, refl)

-- where the words are right, a run doesn't end with the status of faulty words
pub run_exit : (run : Run) → IsSome (totals_asked run.words) → IsRun run → IsRunExit (code_of run.status)
run_exit run right is =
    exit_of run.status (λ e.
    let none : totals_asked run.words ≡ None = subst (IsCausedBy run) e is.caused in
    let no : false ≡ true = subst IsSome none right in
    absurd cc)
