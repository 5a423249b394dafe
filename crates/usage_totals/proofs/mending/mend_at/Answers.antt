use Rattle.std.proofs.Common.{◌≡◌, [], sym, ap, ◌∙◌, remove, unwrap_or}
use Rattle.std.specs.Map.{remove_entry}
use Rattle.usage_totals.specs.Usage.{side, usage_at}
use Rattle.usage_totals.specs.Sums.{with_usage, total_at}
use Rattle.usage_totals.specs.Table.{same, rows_at}
use Rattle.usage_totals.proofs.Tables.{total_with}
use Rattle.usage_totals.proofs.mending.mend_at.Goals as goal

pub mend-requires-clause-counted : goal.mend-requires-clause-counted
mend-requires-clause-counted c = λ q.
    let rows : rows_at c.args.address c.args.meters.now.entries
    ≡ c.in-Some.meter.now = ap (λ o. unwrap_or o []) (sym c.in-Some.ensures.value) in
    let others = total_at q (remove_entry (same c.args.address) c.args.meters.now.entries) in (
      others,
      c.requires.totals q ∙ total_with q c.args.address c.args.meters.now.entries _
          ∙ ap (λ rs. with_usage (usage_at q (side c.args.comes (remove rs c.args.place) rs)) others) rows,
    )

pub returns-clause-totals : goal.returns-clause-totals
returns-clause-totals c = λ q.
    let rows : rows_at c.args.address c.args.meters.now.entries
    ≡ c.in-Some.meter.now = ap (λ o. unwrap_or o []) (sym c.in-Some.ensures.value) in
    let others = total_at q (remove_entry (same c.args.address) c.args.meters.now.entries) in
    c.mend.ensures.mended q others (c.requires.totals q ∙ total_with q c.args.address c.args.meters.now.entries _
    ∙ ap (λ rs. with_usage (usage_at q (side c.args.comes (remove rs c.args.place) rs)) others) rows)
    ∙ ap (λ rs. with_usage (usage_at q (side c.args.comes rs (remove rs c.args.place))) others) (sym rows)
    ∙ sym (total_with q c.args.address c.args.meters.now.entries
    (side c.args.comes (rows_at c.args.address c.args.meters.now.entries)
    (remove (rows_at c.args.address c.args.meters.now.entries) c.args.place)))
