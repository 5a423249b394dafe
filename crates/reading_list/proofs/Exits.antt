-- The exit statuses of a run.
use Rattle.std.proofs.Common.{refl, arith}
use Rattle.reading_list.specs.declared.status.ListStatus.{ListStatus}
use Rattle.reading_list.specs.declared.status.ListStatus.TheVariants as statuses
use Rattle.reading_list.specs.Run.{code_of}
use Rattle.reading_list.specs.Exit.{IsRunExit}

-- each status of a run is one of them
pub exit_of : (status : ListStatus) → IsRunExit (code_of status)
exit_of statuses.Done = (0, omega arith, refl)
exit_of statuses.Noted = (1, omega arith, refl)
exit_of statuses.Read = (2, omega arith, refl)
exit_of statuses.Cut = (4, omega arith, refl)
exit_of statuses.Write = (3, omega arith, refl)
exit_of statuses.Memory = (5, omega arith, refl)
