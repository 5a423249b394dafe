use Rattle.std.proofs.Common.{◌^◌, Some, IfSome, sym, ap, ◌∙◌, subst}
use Rattle.std.specs.Map.Iter.{deref_pair}
use Rattle.usage_totals.specs.Amounts.{IsWithin}
use Rattle.usage_totals.specs.Usage.{last}
use Rattle.usage_totals.proofs.Small.{last_small}
use Rattle.usage_totals.proofs.Taken.{took_last}
use Rattle.usage_totals.proofs.series.Series.last.Goals as goal

pub returns : goal.returns
returns c =
    let inside = c.self.inside.amounts.entries in
    let taken =
    c.amount_of.ensures ∙ took_last deref_pair c.iter.result c.next_back.new.self c.next_back.result c.next_back.ensures.steps
    ∙ ap (last (λ e. Some e.1)) c.iter.ensures.rest in
    record {
      is = taken ∙ ap (last (λ e. Some e.1)) c.self.view_is;
      small = subst (λ o. IfSome o (IsWithin (2 ^ 80))) (sym taken) (last_small inside c.self.invariant);
    }
