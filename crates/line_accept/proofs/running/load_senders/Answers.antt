use Rattle.std.proofs.Common.{ap, Err}
use Rattle.line_accept.proofs.SendersLines.{too_long}
use Rattle.line_accept.proofs.running.load_senders.Goals as goal

pub returns-in-Err-TooMany-clause-refused : goal.returns-in-Err-TooMany-clause-refused
returns-in-Err-TooMany-clause-refused g c = λ tells.
    too_long (g.S.Source.left c.args.source.now) (c.in-Err-TooMany.ensures.many (ap Err c.in-Err-TooMany.field-0-is) tells)
