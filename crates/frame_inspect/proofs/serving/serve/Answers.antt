use Rattle.std.proofs.Common.{ap, ◌∙◌}
use Rattle.meter_slots.specs.Journal.{fresh_start}
use Rattle.frame_inspect.proofs.Served.{served}
use Rattle.frame_inspect.proofs.serving.serve.Goals as goal

pub returns : goal.returns
returns c =
    served c.args.meter.now c.args.telegram c.new-slot.result c.step.result
    (c.new-slot.ensures.start ∙ ap fresh_start c.unnumbered.ensures) c.new-slot.ensures.after
    c.step.ensures.outcome c.step.ensures.reading
