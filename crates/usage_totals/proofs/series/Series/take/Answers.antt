use Rattle.std.proofs.Common.{sym, subst, nat_cmp}
use Rattle.std.specs.BTreeMap.{is_at}
use Rattle.usage_totals.specs.Amounts.{AreSmall}
use Rattle.usage_totals.proofs.Small.{remove_small}
use Rattle.usage_totals.proofs.series.Series.take.Goals as goal

pub invariant_of-self : goal.invariant_of-self
invariant_of-self c =
    subst AreSmall (sym c.remove.ensures.entries)
    (remove_small (is_at (nat_cmp c.args.number)) c.self.inside.amounts.entries c.self.invariant)
