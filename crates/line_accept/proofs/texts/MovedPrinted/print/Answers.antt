use Rattle.std.proofs.Common.{rules}
use Rattle.line_accept.proofs.MovedTexts.{moved_step, moved_end}
use Rattle.line_accept.proofs.texts.MovedPrinted.print.Goals as goal

pub loop-place-preserved : goal.loop-place-preserved
loop-place-preserved g c =
    moved_step c.args.self.now.firsts.now c.args.self.now.senders.now c.loop-place.place c.loop-place.invariant c.put_moved_at.ensures

pub returns : goal.returns
returns g c =
    moved_end c.args.self.now.firsts.now c.args.self.now.senders.now c.loop-place.place (search rules) c.loop-place.invariant
