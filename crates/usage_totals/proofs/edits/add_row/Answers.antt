use Rattle.std.proofs.Common.{sym, ap, ◌∙◌, is_some}
use Rattle.usage_totals.specs.Amounts.{amount_at}
use Rattle.usage_totals.specs.Table.{added}
use Rattle.usage_totals.proofs.Tables.{total_same}
use Rattle.usage_totals.proofs.Edited.{kept_fits, kept_added, added_row}
use Rattle.usage_totals.proofs.edits.add_row.Goals as goal

pub mend_at-requires-clause-place : goal.mend_at-requires-clause-place
mend_at-requires-clause-place c =
    (added_row c.args.address c.args.meters.now.entries c.in_ok-row.row c.in_ok-put.ensures.ok c.count-place.ensures).within

pub mend_at-requires-clause-there : goal.mend_at-requires-clause-there
mend_at-requires-clause-there c = λ q d has.
    c.in_ok-make_room.ensures.there q (ap (λ row. is_some (amount_at q row))
    (sym ((added_row c.args.address c.args.meters.now.entries c.in_ok-row.row c.in_ok-put.ensures.ok c.count-place.ensures).is d)) ∙ has)

pub mend_at-requires-clause-fitting : goal.mend_at-requires-clause-fitting
mend_at-requires-clause-fitting c =
    kept_fits c.requires.kept c.make_room.new.sums.entries c.make_room.ensures.same

pub mend_at-requires-clause-totals : goal.mend_at-requires-clause-totals
mend_at-requires-clause-totals c = λ q.
    c.make_room.ensures.same q ∙ c.requires.kept.totals q ∙ sym ((added_row c.args.address c.args.meters.now.entries c.in_ok-row.row
    c.in_ok-put.ensures.ok c.count-place.ensures).totals q
    ∙ total_same q c.args.address c.args.meters.now.entries)

pub returns-clause-kept : goal.returns-clause-kept
returns-clause-kept c =
    kept_added c.requires.kept c.mend_at.new.sums.entries c.args.address c.put.new.meters.entries c.args.payload.now c.requires.few
    (c.in_ok-put.ensures.ok ∙ ap (added c.args.meters.now.entries c.args.address) c.in_ok-row.ensures)
    (λ q. c.mend_at.ensures.totals q ∙ total_same q c.args.address c.put.new.meters.entries)
