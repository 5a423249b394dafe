use Rattle.paper.proofs.Filings.{files_turn}
use Rattle.paper.proofs.sink_paper.SinkPaper.turn.Goals as goal

pub returns-clause-files : goal.returns-clause-files
returns-clause-files g c =
    files_turn _ _ _ _ _ _ _ _ _ _ c.bytes.ensures c.clear.ensures c.give-self.ensures.later c.give-self.ensures.grows
    c.give-self.ensures.whole c.give-self.ensures.front c.give-self.ensures.stuck c.give-self.ensures.cause
