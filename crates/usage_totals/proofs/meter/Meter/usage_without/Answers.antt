use Rattle.std.proofs.Common.{◌∙◌}
use Rattle.usage_totals.proofs.Numbering.{used_without}
use Rattle.usage_totals.proofs.meter.Meter.usage_without.Goals as goal

pub returns-clause-is : goal.returns-clause-is
returns-clause-is c =
    c.usage_without.ensures.is ∙ used_without c.self.invariant c.self.view_is c.args.place c.requires c.index.ensures c.args.key.now
