use Rattle.std.proofs.Common.{◌≡◌, ◌^◌, ap, sym, subst, unwrap_or}
use Rattle.usage_totals.specs.declared.sums.Sum.{Sum}
use Rattle.usage_totals.specs.Amounts.{IsWithin}
use Rattle.usage_totals.specs.Sums.{no_sum, sum_at}
use Rattle.usage_totals.proofs.Accepted.{kept_below}
use Rattle.usage_totals.proofs.totals.Totals.sum.Goals as goal

pub returns-in-Some-clause-below : goal.returns-in-Some-clause-below
returns-in-Some-clause-below c =
    let sums = c.self.inside.sums.entries in
    let is : c.in-Some.sum.now ≡ sum_at c.args.key.now sums = ap (λ o. unwrap_or o no_sum) c.in-Some.ensures.value in
    subst (λ (s : Sum). IsWithin (2 ^ 93) s.amount) (sym is) (kept_below c.self.inside.meters.entries sums c.self.invariant c.args.key.now)
