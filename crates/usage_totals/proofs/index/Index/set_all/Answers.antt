use Rattle.std.proofs.Common.{◌∙◌, sym, ap, cond, is_some}
use Rattle.usage_totals.specs.Amounts.{amount_at}
use Rattle.usage_totals.specs.Indexed.{with_set, indexed}
use Rattle.usage_totals.proofs.Walks.{changing_starts, changing_goes_on, next_there}
use Rattle.usage_totals.proofs.index.Index.set_all.Goals as goal

pub loop-key-init : goal.loop-key-init
loop-key-init c = (
  tt,
  tt,
  changing_starts c.args.keys.now
      (λ q es. cond (is_some (amount_at q c.args.keys.now)) (with_set c.args.number (amount_at q c.args.row.now) es) es)
      c.args.self.now c.into_iter-key-iterator.result
      (c.into_iter-key-iterator.ensures.into_iter_gives ∙ c.keys-key-items.ensures.rest) c.keys-key-items.ensures.ordered
      (λ q es e. ap (λ o. cond (is_some o) (with_set c.args.number (amount_at q c.args.row.now) es) es) e),
)

pub loop-key-preserved : goal.loop-key-preserved
loop-key-preserved c =
    let key = c.in-Some.key.now in
    let now = indexed key c.loop-key.self in (
      tt,
      tt,
      changing_goes_on c.loop-key.invariant.2 c.in-Some.ensures.steps c.tidy.new.self (λ q e. c.tidy.ensures q ∙ c.set.ensures.others q e)
          (c.tidy.ensures key ∙ c.set.ensures.here ∙ ap (λ o. with_set c.args.number o now) c.amount.ensures.is
          ∙ sym (ap (λ b. cond b (with_set c.args.number (amount_at key c.args.row.now) now) now)
          (next_there c.loop-key.invariant.2 c.in-Some.ensures.steps))),
    )
