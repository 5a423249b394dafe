use Rattle.std.proofs.Common.{◌∙◌, ap}
use Rattle.usage_totals.specs.Amounts.{amount_at}
use Rattle.usage_totals.specs.Indexed.{with_put, indexed}
use Rattle.usage_totals.proofs.Edited.{err_of}
use Rattle.usage_totals.proofs.Walks.{changing_starts, changing_goes_on, changing_stopped}
use Rattle.usage_totals.proofs.index.Index.put_all.Goals as goal

pub loop-key-init : goal.loop-key-init
loop-key-init c = (
  tt,
  tt,
  changing_starts c.args.row.now (λ q es. with_put c.args.number (amount_at q c.args.row.now) es) c.args.self.now
      c.into_iter-key-iterator.result
      (c.into_iter-key-iterator.ensures.into_iter_gives ∙ c.keys-key-items.ensures.rest) c.keys-key-items.ensures.ordered
      (λ q es e. ap (λ o. with_put c.args.number o es) e),
)

pub loop-key-preserved : goal.loop-key-preserved
loop-key-preserved c = (
  tt,
  tt,
  changing_goes_on c.loop-key.invariant.2 c.in-Some.ensures.steps c.put.new.self c.put.ensures.others
      (c.in_ok-put.ensures.ok ∙ ap (λ o. with_put c.args.number o (indexed c.in-Some.key.now c.loop-key.self)) c.amount.ensures.is),
)

pub returns-in_err-put-clause-err : goal.returns-in_err-put-clause-err
returns-in_err-put-clause-err c =
    err_of c.from_residual.result
    (changing_stopped c.loop-key.invariant.2 c.in-Some.ensures.steps c.put.new.self c.put.ensures.others c.in_err-put.ensures.err)
