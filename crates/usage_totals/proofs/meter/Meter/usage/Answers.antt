use Rattle.std.proofs.Common.{ap, ◌∙◌}
use Rattle.usage_totals.specs.Usage.{usage_at}
use Rattle.usage_totals.proofs.Numbering.{used_all}
use Rattle.usage_totals.proofs.meter.Meter.usage.Goals as goal

pub returns-clause-is : goal.returns-clause-is
returns-clause-is c =
    c.usage.ensures.is ∙ used_all c.self.invariant c.args.key.now ∙ ap (usage_at c.args.key.now) c.self.view_is
