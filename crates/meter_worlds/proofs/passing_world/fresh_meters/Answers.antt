use Rattle.std.proofs.Common.{rules, ◌≡◌, ◌++◌, ◌∷◌, [], ℕ, List, map, take, length, sym, ap, ◌∙◌, subst}
use Rattle.std.proofs.lemmas.Iterator.Adapters.{YieldsList-from_vec}
use Rattle.std.proofs.lemmas.Iterator.Consumers.{YieldsList-turn}
use Rattle.std.proofs.lemmas.List.{map-append, take_more, length_push}
use Rattle.meter_worlds.specs.declared.passing_world.PassingMeter.{PassingMeter}
use Rattle.meter_slots.specs.Journal.{Start, SlotView}
use Rattle.meter_worlds.specs.PassingWorld.{ArePassing}
use Rattle.meter_slots.specs.World.{fresh_slot}
use Rattle.lists.proofs.Members.{with_push}
use Rattle.meter_worlds.specs.PassingWorld.{IsPassing}
use Rattle.meter_worlds.proofs.passing_world.fresh_meters.Goals as goal

pub loop-start-preserved : goal.loop-start-preserved
loop-start-preserved c =
    let starts = c.args.starts.items in
    let begun = c.into_iter-start-iterator.ensures.into_iter_gives in
    let n : ℕ = length c.loop-start.yielded in
    let all = YieldsList-from_vec {s = c.into_iter-start-iterator.result} starts begun.0 (begun.1 ∙ c.args.starts.ok.0) in
    let turn = YieldsList-turn all c.loop-start.yielded _ c.loop-start.yielded_by _ c.next.new.self c.in-Some.start c.in-Some.is
    c.next.ensures.steps in
    let grown : take n starts ++ c.in-Some.start ∷ [] ≡ take (length (c.loop-start.yielded ++ c.in-Some.start ∷ [])) starts =
    ap (λ (s : Start). take n starts ++ s ∷ []) turn.1 ∙ sym (take_more starts n c.in-Some.start turn.0)
    ∙ ap (λ (m : ℕ). take m starts) (sym (length_push c.loop-start.yielded c.in-Some.start)) in
    let slots_are : map (fresh_slot c.args.own) (take n starts) ++ fresh_slot c.args.own c.in-Some.start ∷ []
    ≡ map (fresh_slot c.args.own) (take (length (c.loop-start.yielded ++ c.in-Some.start ∷ [])) starts) =
    sym (map-append (fresh_slot c.args.own) (take n starts) (c.in-Some.start ∷ [])) ∙ ap (map (fresh_slot c.args.own)) grown in
    let pushed : c.push.new.self.items ≡ c.loop-start.meters.items ++ c.new.result ∷ [] = search rules in
    subst (λ (bs : List SlotView). ArePassing bs c.push.new.self.items) slots_are
    (subst (λ (ms : List PassingMeter). ArePassing (map (fresh_slot c.args.own) (take n starts) ++ fresh_slot c.args.own c.in-Some.start ∷ []) ms)
    (sym pushed)
    (with_push IsPassing (map (fresh_slot c.args.own) (take n starts)) c.loop-start.meters.items (fresh_slot c.args.own c.in-Some.start)
    c.new.result c.loop-start.invariant c.new.ensures))
