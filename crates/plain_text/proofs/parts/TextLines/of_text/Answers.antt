use Rattle.plain_text.proofs.Cuts.{length-lines}
use Rattle.plain_text.proofs.parts.TextLines.of_text.Goals as goal

pub returns-clause-few : goal.returns-clause-few
returns-clause-few c = length-lines c.args.text.now
