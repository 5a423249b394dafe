use Rattle.std.proofs.Common.{◌^◌, is_some, sym, ap, ◌∙◌, subst}
use Rattle.usage_totals.specs.Amounts.{amount_at}
use Rattle.usage_totals.specs.Sums.{with_usage, IsFitting}
use Rattle.usage_totals.proofs.KeyByKey.{IsMending, used_before, used_after, mending_starts, mending_step, next_waits, sides_same}
use Rattle.usage_totals.proofs.mending.mend.Goals as goal

pub loop-key-init : goal.loop-key-init
loop-key-init c =
    let meter = c.args.meter.now in
    let sums = c.args.sums.now.entries in
    let row = c.row-row.result.now in
    let before = used_before meter c.args.place c.args.comes in
    let after = used_after meter c.args.place c.args.comes in
    let keys = c.into_iter-key-iterator.ensures.into_iter_gives ∙ c.keys-key-items.ensures.rest in
    let start = mending_starts before after sums row c.keys-key-items.ensures.ordered
    (λ q has. c.requires.there q row (ap (λ r. is_some (amount_at q r)) (sym (c.row-row.ensures row)) ∙ has))
    (λ q misses. sides_same q meter c.args.place row c.args.comes c.requires.place (c.row-row.ensures row) misses) in
    (tt, tt, subst (λ ks. IsMending before after sums sums ks) (sym keys) start)

pub change_at-requires-clause-there : goal.change_at-requires-clause-there
change_at-requires-clause-there c = (next_waits c.loop-key.invariant.2 c.in-Some.ensures.steps).0

pub change_at-requires-clause-fitting : goal.change_at-requires-clause-fitting
change_at-requires-clause-fitting c =
    subst (IsFitting (2 ^ 100)) (sym (next_waits c.loop-key.invariant.2 c.in-Some.ensures.steps).1)
    (c.requires.fitting c.in-Some.key.now)

pub change_at-requires-clause-counted : goal.change_at-requires-clause-counted
change_at-requires-clause-counted c =
    let counted = c.requires.counted c.in-Some.key.now in (
      counted.0,
      (next_waits c.loop-key.invariant.2 c.in-Some.ensures.steps).1 ∙ counted.1
          ∙ ap (λ o. with_usage o counted.0) (sym c.usages-before.ensures.before),
    )

pub loop-key-preserved : goal.loop-key-preserved
loop-key-preserved c = (
  tt,
  tt,
  mending_step c.loop-key.invariant.2 c.in-Some.ensures.steps c.change_at.new.sums.entries c.usages-before.ensures.before
      c.usages-before.ensures.after c.change_at.ensures.here c.change_at.ensures.others c.change_at.ensures.stays,
)
