use Rattle.std.proofs.Common.{◌^◌, Some, IfSome, sym, ap, ◌∙◌, subst, nat_cmp}
use Rattle.std.specs.List.Sorted.{IsStrictlySortedBy}
use Rattle.std.specs.Map.{keys_of}
use Rattle.std.specs.Map.Iter.{deref_pair}
use Rattle.std.specs.BTreeMap.{is_at}
use Rattle.usage_totals.specs.Amounts.{IsWithin}
use Rattle.usage_totals.specs.Usage.{last}
use Rattle.usage_totals.specs.Indexed.{without}
use Rattle.usage_totals.proofs.Small.{last_small, remove_small}
use Rattle.usage_totals.proofs.Taken.{took_last, last_there, last_other}
use Rattle.usage_totals.proofs.series.Series.last_without.Goals as goal

pub returns-then-is_of : goal.returns-then-is_of
returns-then-is_of c =
    let number = c.args.number in
    let inside = c.self.inside.amounts.entries in
    let others = c.next_back-last.new.self in
    let taken =
    c.amount_of.ensures ∙ took_last deref_pair others c.next_back.new.self c.next_back.result c.next_back.ensures.steps
    ∙ last_there deref_pair number c.iter-entries.result others c.next_back-last.result
    (subst (λ es. IsStrictlySortedBy nat_cmp (keys_of es)) (sym c.iter-entries.ensures.rest) c.iter-entries.ensures.ordered)
    c.next_back-last.ensures.steps (sym c.is_of.ensures ∙ c.if-is_of.true)
    ∙ ap (λ es. last (λ e. Some e.1) (without number es)) c.iter-entries.ensures.rest in
    record {
      is = taken ∙ ap (λ es. last (λ e. Some e.1) (without number es)) c.self.view_is;
      small =
          subst (λ o. IfSome o (IsWithin (2 ^ 80))) (sym taken)
          (last_small (without number inside) (remove_small (is_at (nat_cmp number)) inside c.self.invariant));
    }

pub returns : goal.returns
returns c =
    let number = c.args.number in
    let inside = c.self.inside.amounts.entries in
    let taken =
    c.amount_of-2.ensures
    ∙ last_other deref_pair number c.iter-entries.result c.next_back-last.new.self c.next_back-last.result
    c.next_back-last.ensures.steps (sym c.is_of.ensures ∙ c.if-is_of.false)
    ∙ ap (λ es. last (λ e. Some e.1) (without number es)) c.iter-entries.ensures.rest in
    record {
      is = taken ∙ ap (λ es. last (λ e. Some e.1) (without number es)) c.self.view_is;
      small =
          subst (λ o. IfSome o (IsWithin (2 ^ 80))) (sym taken)
          (last_small (without number inside) (remove_small (is_at (nat_cmp number)) inside c.self.invariant));
    }
