use Rattle.std.proofs.Common.{◌≡◌, ◌<◌, true, length, get_or, remove, is_some, sym, ap, ◌∙◌, subst}
use Rattle.std.proofs.lemmas.Result.{on_ok_weaker}
use Rattle.usage_totals.specs.Amounts.{amount_at}
use Rattle.usage_totals.specs.Sums.{total_at}
use Rattle.usage_totals.specs.Table.{rows_at, with_rows, replaced, IsKept}
use Rattle.usage_totals.proofs.Tables.{total_same}
use Rattle.usage_totals.proofs.Edited.{by_result, kept_sums, kept_there, kept_fits, kept_before, kept_replaced, gone_fits, replaced_row}
use Rattle.usage_totals.proofs.edits.replace_row.Goals as goal

pub mend_at-requires-clause-there : goal.mend_at-requires-clause-there
mend_at-requires-clause-there c =
    kept_there c.requires.kept c.make_room.new.sums.entries c.make_room.ensures.same c.args.address c.args.place c.requires.place

pub mend_at-requires-clause-fitting : goal.mend_at-requires-clause-fitting
mend_at-requires-clause-fitting c = kept_fits c.requires.kept c.make_room.new.sums.entries c.make_room.ensures.same

pub mend_at-requires-clause-totals : goal.mend_at-requires-clause-totals
mend_at-requires-clause-totals c =
    kept_before c.requires.kept c.make_room.new.sums.entries c.make_room.ensures.same c.args.address

pub mend_at-requires-2-clause-place : goal.mend_at-requires-2-clause-place
mend_at-requires-2-clause-place c =
    by_result c.swap-swapped.result c.swap-swapped.ensures.ok c.swap-swapped.ensures.err
    (λ is. (replaced_row c.args.address c.args.meters.now.entries c.in_ok-row.row c.args.place c.requires.place is).within)
    (λ is. subst (λ t. c.args.place < length (rows_at c.args.address t)) (sym is) c.requires.place)

pub mend_at-requires-2-clause-there : goal.mend_at-requires-2-clause-there
mend_at-requires-2-clause-there c = λ q d has.
    c.mend_at.ensures.stays q (by_result c.swap-swapped.result c.swap-swapped.ensures.ok c.swap-swapped.ensures.err
    (λ is. c.in_ok-make_room.ensures.there q (ap (λ row. is_some (amount_at q row))
    (sym ((replaced_row c.args.address c.args.meters.now.entries c.in_ok-row.row c.args.place c.requires.place is).is d)) ∙ has))
    (λ is. kept_there c.requires.kept c.make_room.new.sums.entries c.make_room.ensures.same c.args.address c.args.place c.requires.place q d
    (subst (λ t. is_some (amount_at q (get_or (rows_at c.args.address t) c.args.place d)) ≡ true) is has)))

pub mend_at-requires-2-clause-fitting : goal.mend_at-requires-2-clause-fitting
mend_at-requires-2-clause-fitting c =
    gone_fits c.args.address c.args.place c.mend_at.new.sums.entries c.requires.kept c.requires.place c.mend_at.ensures.totals

pub mend_at-requires-2-clause-totals : goal.mend_at-requires-2-clause-totals
mend_at-requires-2-clause-totals c = λ q.
    c.mend_at.ensures.totals q ∙ by_result c.swap-swapped.result c.swap-swapped.ensures.ok c.swap-swapped.ensures.err
    (λ is. sym ((replaced_row c.args.address c.args.meters.now.entries c.in_ok-row.row c.args.place c.requires.place is).totals q))
    (λ is. ap (λ t. total_at q (with_rows t c.args.address (remove (rows_at c.args.address t) c.args.place))) (sym is))

pub returns-clause-ok : goal.returns-clause-ok
returns-clause-ok c =
    on_ok_weaker c.swap-swapped.result (λ is. is ∙ ap (replaced c.args.meters.now.entries c.args.address c.args.place) c.in_ok-row.ensures)
    c.swap-swapped.ensures.ok

pub returns-clause-kept : goal.returns-clause-kept
returns-clause-kept c =
    by_result c.swap-swapped.result c.swap-swapped.ensures.ok c.swap-swapped.ensures.err
    (λ is. kept_replaced c.requires.kept c.mend_at-2.new.sums.entries c.args.address c.swap-swapped.new.meters.entries c.args.place
    c.requires.place c.args.payload.now
    (is ∙ ap (replaced c.args.meters.now.entries c.args.address c.args.place) c.in_ok-row.ensures)
    (λ q. c.mend_at-2.ensures.totals q ∙ total_same q c.args.address c.swap-swapped.new.meters.entries))
    (λ is. subst (λ t. IsKept t c.mend_at-2.new.sums.entries) (sym is) (kept_sums c.requires.kept c.mend_at-2.new.sums.entries
    (λ q. c.mend_at-2.ensures.totals q ∙ total_same q c.args.address c.swap-swapped.new.meters.entries ∙ ap (total_at q) is
    ∙ sym (c.requires.kept.totals q))))
