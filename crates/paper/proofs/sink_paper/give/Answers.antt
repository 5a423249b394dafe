use Rattle.paper.proofs.Filings.{appended_front}
use Rattle.paper.proofs.sink_paper.give.Goals as goal

pub returns-in-Err-clause-front : goal.returns-in-Err-clause-front
returns-in-Err-clause-front g c = λ off t. appended_front _ _ _ (c.in-Err.ensures.err t)
