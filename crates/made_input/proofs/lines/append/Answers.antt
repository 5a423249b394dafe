use Rattle.std.proofs.Common.{◌++◌, ap, ◌∙◌}
use Rattle.made_input.proofs.Hearing.{one_line}
use Rattle.made_input.proofs.lines.append.Goals as goal

pub loop-line-preserved : goal.loop-line-preserved
loop-line-preserved c =
    one_line (λ line. line.items) c.args.lines.now c.loop-line.line-index c.line-item.result c.args.text.now.items
    c.loop-line.text.items _ c.loop-line-test.true c.line-item.is
    c.loop-line.invariant (c.in_ok-extend_from_slice.ensures.items ∙ ap (λ t. c.loop-line.text.items ++ t) c.deref.ensures.value)
