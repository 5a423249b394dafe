use Rattle.std.proofs.Common.{sym, ap, ◌∙◌, ◌<◌, [], length, remove, subst, unwrap_or}
use Rattle.std.specs.Map.{set_value}
use Rattle.usage_totals.specs.Table.{same}
use Rattle.usage_totals.proofs.Tables.{written_as, remove_some}
use Rattle.usage_totals.proofs.meters.take.Goals as goal

pub returns-in-Some : goal.returns-in-Some
returns-in-Some c =
    written_as c.args.address c.args.meters.now.entries _ c.in-Some.meter.now (λ rs. remove rs c.args.place) c.in-Some.ensures.value
    ((c.get_mut.follows.holds c.remove.new.self).0 ∙ ap (set_value (same c.args.address) c.args.meters.now.entries) c.remove.ensures)
    (remove_some c.in-Some.meter.now c.args.place
    (subst (λ o. c.args.place < length (unwrap_or o [])) (sym c.in-Some.ensures.value) c.requires)
    (λ one. c.if-count-eq1.false (c.count.ensures ∙ ap (λ o. length (unwrap_or o [])) (sym c.in-Some.ensures.value) ∙ one)))
