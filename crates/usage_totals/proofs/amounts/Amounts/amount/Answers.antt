use Rattle.std.proofs.Common.{◌^◌, IfSome, sym, ◌∙◌, subst}
use Rattle.std.specs.BTreeMap.{is_at}
use Rattle.usage_totals.specs.Keys.{key_cmp}
use Rattle.usage_totals.specs.Amounts.{IsWithin}
use Rattle.usage_totals.proofs.Small.{lookup_small}
use Rattle.usage_totals.proofs.amounts.Amounts.amount.Goals as goal

pub returns-clause-small : goal.returns-clause-small
returns-clause-small c =
    subst (λ o. IfSome o (IsWithin (2 ^ 80))) (sym (c.copied.ensures ∙ c.get.ensures.value))
    (lookup_small (is_at (key_cmp c.args.key.now)) c.self.inside.entries.entries c.self.invariant)
