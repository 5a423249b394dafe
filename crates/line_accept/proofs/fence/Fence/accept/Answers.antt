use Rattle.line_accept.proofs.Judging.{gap_beyond}
use Rattle.line_accept.proofs.fence.Fence.accept.Goals as goal

pub returns-clause-gap : goal.returns-clause-gap
returns-clause-gap c = gap_beyond c.args.self.now c.args.message.now c.answer-answer.result c.answer-answer.ensures.answer
