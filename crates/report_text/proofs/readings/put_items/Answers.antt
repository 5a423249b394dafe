use Rattle.std.proofs.Common.{◌≡◌, ◌∷◌, ◌+◌, drop, map, sym, ap, ◌∙◌}
use Rattle.std.proofs.lemmas.List.{drop_more, drop_all}
use Rattle.serde_json.specs.View.{items_of}
use Rattle.serde_json.specs.Written.{items_text}
use Rattle.paper.proofs.Items.{is_put}
use Rattle.report_text.specs.Readings.{meter_tree}
use Rattle.report_text.proofs.MembersPut.{item_put}
use Rattle.report_text.proofs.readings.put_items.Goals as goal

pub loop-slot-preserved : goal.loop-slot-preserved
loop-slot-preserved g c =
    let slots = c.args.slots.now in
    let i = c.loop-slot.slot-index in
    let slot = c.slot-item.result in
    let cut : drop i slots ≡ slot ∷ drop (i + 1) slots = drop_more slots i slot c.loop-slot-test.true
    ∙ ap (λ b. b ∷ drop (i + 1) slots) (sym c.slot-item.is) in
    λ q rest. c.loop-slot.invariant q (is_put _ _ (ap (λ bs. items_text c.loop-slot.later (items_of (map meter_tree bs))) cut)
    (item_put c.loop-slot.later (meter_tree slot) (items_of (map meter_tree (drop (i + 1) slots)))
    c.put_comma.ensures c.put_item.ensures rest))

pub returns : goal.returns
returns g c = c.loop-slot.invariant _ (is_put _ _ (ap (λ bs. items_text c.loop-slot.later (items_of (map meter_tree bs)))
    (drop_all c.loop-slot.slot-index c.args.slots.now c.loop-slot-test.false)) c.put_text.ensures)
