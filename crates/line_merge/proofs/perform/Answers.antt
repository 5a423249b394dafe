use Rattle.line_merge.proofs.Exits.{unopened_exit}
use Rattle.line_merge.proofs.perform.Goals as goal

pub returns-clause-exit : goal.returns-clause-exit
returns-clause-exit g c = λ text asked. unopened_exit _ c.in-Err.ensures.stops
