-- Closes what a step in a world comes to.
use Rattle.std.proofs.Common.{List, ap, ◌∙◌}
use Rattle.meter_address.specs.declared.address.Address.{Address}
use Rattle.meter_slots.specs.declared.step.Step.{Step}
use Rattle.receivers.specs.declared.slots.Heard.{Heard}
use Rattle.receivers.specs.Alone.{addresses_in}
use Rattle.meter_slots.proofs.Worlds.{addresses_stay}
use Rattle.receivers.proofs.Lone.{slot_class, stranger_class}
use Rattle.receivers.proofs.alone.AloneSlots.step.Goals as goal

pub returns-in-Ok-Slot-clause-fixed : goal.returns-in-Ok-Slot-clause-fixed
returns-in-Ok-Slot-clause-fixed g c =
    ap (λ (d : List Address). (c.args.self.now.source, d)) (ap addresses_in c.in-Ok-Slot.ensures.after ∙ addresses_stay _ _)

pub returns-in-Ok-Stranger-clause-fixed : goal.returns-in-Ok-Stranger-clause-fixed
returns-in-Ok-Stranger-clause-fixed g c =
    ap (λ (d : List Address). (c.args.self.now.source, d)) (ap addresses_in c.in-Ok-Stranger.ensures.after ∙ addresses_stay _ _)

pub returns-in-Ok-Slot-clause-class : goal.returns-in-Ok-Slot-clause-class
returns-in-Ok-Slot-clause-class g c =
    let s : Step = record { source = c.args.self.now.source; line = c.args.line; address = c.args.address; event = c.args.event } in
    ap (λ (h : Heard). h.class) c.silent.ensures
    ∙ slot_class c.args.self.now.world s _ _ _ c.in-Ok-Slot.field-0-is c.in-Ok-Slot.ensures.stranger

pub returns-in-Ok-Stranger-clause-class : goal.returns-in-Ok-Stranger-clause-class
returns-in-Ok-Stranger-clause-class g c =
    let s : Step = record { source = c.args.self.now.source; line = c.args.line; address = c.args.address; event = c.args.event } in
    ap (λ (h : Heard). h.class) c.silent-in-Ok-Stranger.ensures
    ∙ stranger_class c.args.self.now.world s _ c.in-Ok-Stranger.field-0-is c.in-Ok-Stranger.ensures.stranger
