use Rattle.std.proofs.Common.{◌+◌, arith}
use Rattle.made_input.specs.Lines.{line_at}
use Rattle.made_input.proofs.Hearing.{one_item}
use Rattle.made_input.proofs.lines.lines.Goals as goal

pub loop-place-preserved : goal.loop-place-preserved
loop-place-preserved c =
    one_item (λ line. line.items) (line_at c.args.meters.now) (c.args.before + 1) c.loop-place.place
    (c.args.before + c.loop-place.place + 1) c.loop-place.lines.items _ c.in_ok-line.field-0 c.loop-place.invariant
    (omega arith) c.in_ok-push.ensures.items c.in_ok-line.ensures
