use Rattle.std.proofs.Common.{sym, ◌∙◌}
use Rattle.steps_main.proofs.Known.{tell_known}
use Rattle.steps_main.proofs.leaving.show_known_at.Goals as goal

pub returns-in-None : goal.returns-in-None
returns-in-None c = tell_known _ _ (sym c.in-None.is ∙ c.known.ensures) tt

pub returns-in-Some : goal.returns-in-Some
returns-in-Some c = tell_known _ _ (sym c.in-Some.is ∙ c.known.ensures) c.show_known.ensures
