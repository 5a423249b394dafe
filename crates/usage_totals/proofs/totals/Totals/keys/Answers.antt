-- The keys whose sums count a meter are in order, and they are those of the rows' amounts.
use Rattle.std.proofs.Common.{sym, ap, ◌∙◌, nat_lt}
use Rattle.usage_totals.specs.declared.sums.Sum.{Sum}
use Rattle.usage_totals.specs.Sums.{total_at}
use Rattle.usage_totals.specs.Edits.{rows_after}
use Rattle.usage_totals.proofs.Payloads.{total_kept}
use Rattle.usage_totals.proofs.Used.{used_has, used_ordered, if_ok}
use Rattle.usage_totals.proofs.KeysIn.{same_members, keys_in_order, among_keys_in, counted_used}
use Rattle.usage_totals.proofs.totals.Totals.keys.Goals as goal

pub returns : goal.returns
returns c = λ edits s.
    let sums = c.self.inside.sums.entries in
    let table = rows_after edits in
    if_ok c.used_keys.result c.used_keys.ensures.is (λ keys e.
    e ∙ same_members _ _ (used_ordered sums c.used_keys.ensures.ordered) (keys_in_order table) (λ q.
    used_has q sums c.used_keys.ensures.ordered
    ∙ ap (λ (sum : Sum). nat_lt 0 sum.meters) (c.self.invariant.totals q ∙ ap (total_at q) (c.self.view_is ∙ s.rows) ∙ total_kept q table)
    ∙ counted_used q table ∙ sym (among_keys_in q table)))
