use Rattle.std.proofs.Common.{◌∙◌}
use Rattle.paper.proofs.Filings.{files_then}
use Rattle.paper.proofs.sink_paper.SinkPaperPaper.put.Goals as goal

pub returns-else-bytes-room : goal.returns-else-bytes-room
returns-else-bytes-room g c =
    (c.begin.ensures.same ∙ c.turn.ensures.same, files_then _ _ _ _ _ _ c.turn.ensures.files c.begin.ensures.files)
