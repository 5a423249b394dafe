-- The exit statuses of a run.
use Rattle.std.proofs.Common.{◌≡◌, ◌∙◌, true, false, refl, sym, subst, arith}
use Rattle.std.proofs.lemmas.Bool.{false≢true}
use Rattle.audit_check_main.specs.declared.status.AuditStatus.{AuditStatus}
use Rattle.audit_check_main.specs.declared.status.AuditStatus.TheVariants as statuses
use Rattle.audit_check_main.specs.Run.{Run, IsRun, IsCausedBy, are_files}
use Rattle.audit_check_main.specs.Statuses.{code_of}
use Rattle.audit_check.specs.Exit.{IsRunExit}

exit_of : (status : AuditStatus) → (status ≡ statuses.Words → ⊥) → IsRunExit (code_of status)
exit_of statuses.Yes other = (0, omega arith, refl)
exit_of (statuses.No cause) other = (7, omega arith, refl)
exit_of statuses.Words other = absurd (other refl)
exit_of statuses.ReadState other = (1, omega arith, refl)
exit_of statuses.ReadReport other = (8, omega arith, refl)
exit_of statuses.ReadNext other = (9, omega arith, refl)
exit_of statuses.LongReport other = (4, omega arith, refl)
exit_of (statuses.Read w) other = (2, omega arith, refl)
exit_of statuses.Write other = (3, omega arith, refl)
exit_of statuses.Memory other = (5, omega arith, refl)

-- where the words are files, a run doesn't end with the status of faulty words
pub run_exit : (run : Run) → are_files run.words ≡ true → IsRun run → IsRunExit (code_of run.status)
run_exit run right is = exit_of run.status (λ e.
    let wrong : are_files run.words ≡ false = subst (IsCausedBy run) e is.caused in false≢true (sym wrong ∙ right))
