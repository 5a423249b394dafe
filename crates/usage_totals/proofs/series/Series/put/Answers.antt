use Rattle.std.proofs.Common.{sym, ap, ◌∙◌, subst, nat_cmp}
use Rattle.std.specs.BTreeMap.{insert_entry}
use Rattle.std.proofs.lemmas.Int.{to_z-of_z}
use Rattle.usage_totals.specs.Amounts.{AreSmall}
use Rattle.usage_totals.proofs.Small.{insert_small}
use Rattle.usage_totals.proofs.series.Series.put.Goals as goal

pub invariant_of-self-2 : goal.invariant_of-self-2
invariant_of-self-2 c =
    subst AreSmall
    (sym (c.in_ok-insert.ensures.entries
    ∙ ap (insert_entry nat_cmp c.self.inside.amounts.entries c.args.number) (to_z-of_z _ c.args.amount c.ranges.amount)))
    (insert_small nat_cmp c.self.inside.amounts.entries c.args.number c.args.amount c.requires c.self.invariant)
