use Rattle.std.proofs.Common.{List, map, ap, ◌∙◌}
use Rattle.stranger_ring.specs.declared.strangers.Heard.{Heard}
use Rattle.meter_slots.specs.Journal.{SlotView}
use Rattle.meter_slots.specs.World.{WorldView, fresh_slot}
use Rattle.meter_worlds.proofs.Worlds.{ordered_fresh, world_fresh}
use Rattle.meter_worlds.proofs.world.World.new.Goals as goal

pub directory_of-requires-clause-apart : goal.directory_of-requires-clause-apart
directory_of-requires-clause-apart c = rw c.as_slice.ensures.value c.requires.apart

pub directory_of-requires-clause-few : goal.directory_of-requires-clause-few
directory_of-requires-clause-few c = rw c.as_slice.ensures.value c.requires.few

pub invariant_of-result : goal.invariant_of-result
invariant_of-result c = rw (c.in_ok-fresh_slots.ensures, c.in_ok-directory_of.ensures, c.as_slice.ensures.value)
    (ordered_fresh c.args.own c.args.starts.items c.requires.apart)

pub returns : goal.returns
returns c =
    let slots = map (fresh_slot c.args.own) c.args.starts.items in
    let World : List SlotView → List Heard → WorldView = λ bs ts. record { slots = bs; strangers = ts } in
    ap (λ bs. World bs c.new.result) c.in_ok-fresh_slots.ensures ∙ ap (World slots) c.new.ensures
    ∙ world_fresh c.args.own c.args.starts.items
