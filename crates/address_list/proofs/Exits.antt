-- The exit statuses of a run.
use Rattle.std.proofs.Common.{refl, arith}
use Rattle.line_teller.specs.declared.ending.LinesEnd.{LinesEnd}
use Rattle.line_teller.specs.declared.ending.LinesEnd.TheVariants as ends
use Rattle.address_list.specs.Run.{code_of}
use Rattle.address_list.specs.Exit.{IsRunExit}

-- each end has one of them
pub exit_of : (end : LinesEnd) → IsRunExit (code_of end)
exit_of ends.Done = (0, omega arith, refl)
exit_of ends.Read = (1, omega arith, refl)
exit_of ends.Write = (2, omega arith, refl)
exit_of ends.Cut = (3, omega arith, refl)
exit_of ends.Memory = (4, omega arith, refl)
