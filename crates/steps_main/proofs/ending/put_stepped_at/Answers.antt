use Rattle.std.proofs.Common.{sym, ◌∙◌}
use Rattle.paper.proofs.Calls.{none}
use Rattle.steps_main.proofs.Known.{put_stepped}
use Rattle.steps_main.proofs.ending.put_stepped_at.Goals as goal

pub returns-then-had_step : goal.returns-then-had_step
returns-then-had_step g c = put_stepped _ _ (sym c.if-had_step.true ∙ c.had_step.ensures) c.put_known_at.ensures

pub returns-else-had_step : goal.returns-else-had_step
returns-else-had_step g c = put_stepped _ _ (sym c.if-had_step.false ∙ c.had_step.ensures) none
