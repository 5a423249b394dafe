use Rattle.std.proofs.Common.{refl, ap, Err}
use Rattle.frame_inspect.proofs.Runs.{shown_run, unloaded_run}
use Rattle.frame_inspect.proofs.running.show_records.Goals as goal

pub returns-in-Ok : goal.returns-in-Ok
returns-in-Ok g c = shown_run _ c.show_lines.result c.in-Ok.roster refl c.in-Ok.ensures.found c.show_lines.ensures c.load_roster.ensures.no_loss

pub returns-in-Err : goal.returns-in-Err
returns-in-Err g c =
    unloaded_run _ c.in-Err.fault (λ number cause e. c.in-Err.ensures.line number cause (ap Err e)) (λ e. c.in-Err.ensures.failed (ap Err e))
    (record { untaken = refl; silent = refl }) c.of_fault.ensures c.load_roster.ensures.no_loss
