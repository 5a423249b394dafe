use Rattle.message_check.proofs.LayerLaws.{content_at_body}
use Rattle.message_check.proofs.laws.content_stands_at_body.Goals as goal

pub returns : goal.returns
returns c = content_at_body
