use Rattle.usage_totals.specs.Amounts.{amount_at}
use Rattle.usage_totals.proofs.Parts.{changed, restored}
use Rattle.usage_totals.proofs.index.Index.change.Goals as goal

pub returns-in-Ok-clause-ok : goal.returns-in-Ok-clause-ok
returns-in-Ok-clause-ok c = λ q.
    changed (c.requires q) (amount_at q c.args.new.now) (c.in-Ok.ensures.ok q) (c.set_all.ensures q)

pub returns-in-Err-clause-err : goal.returns-in-Err-clause-err
returns-in-Err-clause-err c = λ q.
    restored (c.requires q) (amount_at q c.args.new.now) (c.in-Err.ensures.err q) (c.set_all-in-Err.ensures q)
