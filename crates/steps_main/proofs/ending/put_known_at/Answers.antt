use Rattle.std.proofs.Common.{sym, ◌∙◌}
use Rattle.paper.proofs.Calls.{none}
use Rattle.step_text.specs.Lines.{block_line}
use Rattle.steps_main.proofs.Known.{put_known}
use Rattle.steps_main.proofs.ending.put_known_at.Goals as goal

pub returns-in-None : goal.returns-in-None
returns-in-None g c = put_known (λ known. block_line known) _ _ (sym c.in-None.is ∙ c.known.ensures) none

pub returns-in-Some : goal.returns-in-Some
returns-in-Some g c = put_known (λ known. block_line known) _ _ (sym c.in-Some.is ∙ c.known.ensures) c.put_block_line.ensures.puts
