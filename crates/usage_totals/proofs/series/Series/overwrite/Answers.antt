use Rattle.std.proofs.Common.{ℕ, ℤ, sym, ap, ◌∙◌, subst, nat_cmp}
use Rattle.std.specs.Map.{set_value}
use Rattle.std.specs.BTreeMap.{BTreeMap, is_at}
use Rattle.std.proofs.lemmas.Int.{to_z-of_z}
use Rattle.usage_totals.specs.Amounts.{AreSmall}
use Rattle.usage_totals.proofs.Small.{set_small}
use Rattle.usage_totals.proofs.Parts.{set_absent}
use Rattle.usage_totals.proofs.series.Series.overwrite.Goals as goal

pub returns-in_default : goal.returns-in_default
returns-in_default c =
    ap (λ (m : BTreeMap ℕ ℤ). m.entries) c.get_mut.follows.holds-at-none
    ∙ sym (set_absent c.args.number c.self.inside.amounts.entries c.args.amount (sym c.in_default.ensures.value))
    ∙ ap (λ es. set_value (is_at (nat_cmp c.args.number)) es c.args.amount) c.self.view_is

pub invariant_of-self-2 : goal.invariant_of-self-2
invariant_of-self-2 c =
    subst AreSmall
    (sym ((c.get_mut.follows.holds _).0
    ∙ ap (set_value (is_at (nat_cmp c.args.number)) c.self.inside.amounts.entries) (to_z-of_z _ c.args.amount c.ranges.amount)))
    (set_small (is_at (nat_cmp c.args.number)) c.self.inside.amounts.entries c.args.amount c.requires c.self.invariant)
