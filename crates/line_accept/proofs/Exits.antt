-- The exit statuses of a run.
use Rattle.std.proofs.Common.{◌≡◌, ℕ, refl, sym, subst, arith}
use Rattle.line_accept.specs.declared.status.AcceptStatus.{AcceptStatus}
use Rattle.line_accept.specs.declared.status.AcceptStatus.TheVariants as statuses
use Rattle.line_accept.specs.Run.{Run, IsCausedBy, IsRun, code_of}
use Rattle.line_accept.specs.Exit.{IsRunExit}

run_exit : (run : Run) (status : AcceptStatus) → IsCausedBy run status → IsRunExit (code_of status)
run_exit run statuses.Done c = (0, omega arith, refl)
run_exit run statuses.Words c = absurd c
run_exit run (statuses.Senders line cause) c = (1, omega arith, refl)
run_exit run statuses.ReadSenders c = (2, omega arith, refl)
run_exit run statuses.Read c = (3, omega arith, refl)
run_exit run statuses.Write c = (4, omega arith, refl)
run_exit run statuses.Cut c = (5, omega arith, refl)
run_exit run statuses.Memory c = (6, omega arith, refl)

pub exit_of : (run : Run) (code : ℕ) → code ≡ code_of run.status → IsRun run → IsRunExit code
exit_of run code is h = subst IsRunExit (sym is) (run_exit run run.status h.caused)
