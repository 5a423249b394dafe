use Rattle.std.proofs.Common.{sym, ◌∙◌}
use Rattle.paper.proofs.Calls.{none}
use Rattle.state_file.specs.Written.{block_text}
use Rattle.steps_main.proofs.Known.{put_known}
use Rattle.steps_main.proofs.leaving.put_block_at.Goals as goal

pub returns-in-None : goal.returns-in-None
returns-in-None g c = put_known block_text _ _ (sym c.in-None.is ∙ c.known.ensures) none

pub returns-in-Some : goal.returns-in-Some
returns-in-Some g c = put_known block_text _ _ (sym c.in-Some.is ∙ c.known.ensures) c.put_block.ensures
