use Rattle.std.proofs.Common.{◌∙◌, ap, cond, is_some}
use Rattle.usage_totals.specs.Amounts.{amount_at}
use Rattle.usage_totals.specs.Indexed.{with_set, indexed}
use Rattle.usage_totals.proofs.Parts.{gone}
use Rattle.usage_totals.proofs.index.Index.remove.Goals as goal

pub returns : goal.returns
returns c = λ q.
    gone (c.requires q) (c.set_all-3.ensures q ∙ ap (λ row. cond (is_some (amount_at q c.args.row.now))
    (with_set c.args.number (amount_at q row) (indexed q c.args.self.now)) (indexed q c.args.self.now)) c.nothing.ensures)
