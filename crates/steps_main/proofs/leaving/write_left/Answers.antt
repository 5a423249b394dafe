use Rattle.steps_main.proofs.Wrote.{wrote_by}
use Rattle.steps_main.proofs.leaving.write_left.Goals as goal

pub returns-clause-wrote : goal.returns-clause-wrote
returns-clause-wrote g c = wrote_by _ _ _ _ c.write.ensures.ok c.write.ensures.err c.write.ensures.cause
