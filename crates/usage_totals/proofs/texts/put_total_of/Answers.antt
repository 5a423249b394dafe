use Rattle.std.proofs.Common.{ℕ, ℤ, ap, sym}
use Rattle.paper.proofs.Items.{is_put}
use Rattle.usage_totals.specs.declared.sums.Sum.{Sum}
use Rattle.usage_totals.specs.Texts.{total_line}
use Rattle.usage_totals.proofs.texts.put_total_of.Goals as goal

abbrev sum_of : ℕ × ℤ → Sum
sum_of pair = record { meters = pair.0; amount = pair.1 }

pub returns : goal.returns
returns g c = is_put _ _ (ap (λ (pair : ℕ × ℤ). total_line c.args.key.now (sum_of pair)) (sym c.total.ensures.kept)) c.put_total.ensures
