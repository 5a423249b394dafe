-- A line that is too long asks for nothing.
use Rattle.usage_totals.proofs.Lines.{long_line}
use Rattle.usage_totals.proofs.Told.{told_bad}
use Rattle.usage_totals.proofs.answer.AnswererTeller.tell_long.Goals as goal

pub returns : goal.returns
returns c = λ line long. told_bad c.args.self.now _ line _ _ _ (long_line line long) c.put_bad.ensures
