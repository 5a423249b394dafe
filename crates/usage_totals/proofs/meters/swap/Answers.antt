use Rattle.std.proofs.Common.{sym, ap, ◌∙◌, ◌<◌, [], length, subst, slice_set, unwrap_or}
use Rattle.std.specs.Map.{set_value}
use Rattle.std.proofs.lemmas.Result.{on_ok_weaker, on_err_weaker}
use Rattle.std.proofs.lemmas.Map.Steps.{set_value_same}
use Rattle.usage_totals.specs.Table.{same}
use Rattle.usage_totals.proofs.Tables.{written_as, set_some}
use Rattle.usage_totals.proofs.meters.swap.Goals as goal

pub returns-in-Some-clause-ok : goal.returns-in-Some-clause-ok
returns-in-Some-clause-ok c =
    on_ok_weaker c.replace.result (λ is.
    written_as c.args.address c.args.meters.now.entries _ c.in-Some.meter.now (λ rs. slice_set rs c.args.place c.args.row)
    c.in-Some.ensures.value ((c.get_mut.follows.holds c.replace.new.self).0
    ∙ ap (set_value (same c.args.address) c.args.meters.now.entries) is) (set_some c.in-Some.meter.now c.args.place c.args.row
    (subst (λ o. c.args.place < length (unwrap_or o [])) (sym c.in-Some.ensures.value) c.requires))) c.replace.ensures.ok

pub returns-in-Some-clause-err : goal.returns-in-Some-clause-err
returns-in-Some-clause-err c =
    on_err_weaker c.replace.result (λ is.
    (c.get_mut.follows.holds c.replace.new.self).0
    ∙ ap (set_value (same c.args.address) c.args.meters.now.entries) is
    ∙ set_value_same (same c.args.address) c.args.meters.now.entries c.in-Some.meter.now (sym c.in-Some.ensures.value))
    c.replace.ensures.err
