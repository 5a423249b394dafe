use Rattle.std.proofs.Common.{arith}
use Rattle.plain_text.proofs.Cuts.{split-within}
use Rattle.plain_text.proofs.parts.Fields.of_line.Goals as goal

pub returns-clause-within : goal.returns-clause-within
returns-clause-within c = split-within _ c.args.line.now _ (omega arith)
