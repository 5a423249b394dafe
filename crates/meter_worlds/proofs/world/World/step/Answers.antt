-- What a step leaves of the world, and where it lands.
use Rattle.std.proofs.Common.{◌≡◌, ◌↔◌, false, refl, ap, sym, ◌∙◌, subst}
use Rattle.meter_address.specs.Address.{AreApart}
use Rattle.meter_slots.specs.declared.step.Landed.TheVariants.{Slot, Stranger}
use Rattle.meter_slots.specs.World.{WorldView, after_step, has_slot, AnsweredBy}
use Rattle.meter_slots.proofs.Worlds.{after_push}
use Rattle.meter_worlds.proofs.Worlds.{none_found, found_at, ordered_step, after_strange, after_own, landed_strange, landed_own}
use Rattle.meter_worlds.proofs.Worlds.{answered_own, stranger_strange, stranger_own, some_slot}
use Rattle.meter_worlds.proofs.world.World.step.Goals as goal

pub invariant_of-self-in-Some : goal.invariant_of-self-in-Some
invariant_of-self-in-Some c =
    let slots = c.self.inside.slots.items in
    let found = found_at slots _ c.args.step.address.0 _ some_slot c.self.invariant (sym c.in-Some.ensures) in
    ordered_step slots _ _ _ c.args.step some_slot c.self.invariant found.0 found.1 (c.in_ok-outcome-in-Some.ensures.ok some_slot)

-- ---- no slot has the address

pub returns-in_ok-note-in-None-clause-after : goal.returns-in_ok-note-in-None-clause-after
returns-in_ok-note-in-None-clause-after c =
    let w : WorldView = record { slots = c.self.inside.slots.items; strangers = c.self.inside.strangers } in
    let none = none_found w.slots c.self.inside.directory c.args.step.address.0 c.self.invariant (sym c.in-None.ensures) in
    ap (λ ts. record { slots = w.slots; strangers = ts }) c.in_ok-note-in-None.ensures.ok ∙ after_strange c.args.step w none
    ∙ ap (λ v. after_step v c.args.step) c.self.view_is

pub returns-in_ok-note-in-None-clause-stranger : goal.returns-in_ok-note-in-None-clause-stranger
returns-in_ok-note-in-None-clause-stranger c =
    let w : WorldView = record { slots = c.self.inside.slots.items; strangers = c.self.inside.strangers } in
    let none = none_found w.slots c.self.inside.directory c.args.step.address.0 c.self.invariant (sym c.in-None.ensures) in
    stranger_strange _ c.args.step (subst (λ (v : WorldView). has_slot v.slots c.args.step ≡ false) c.self.view_is none)

pub returns-in_ok-note-in-None-clause-ok : goal.returns-in_ok-note-in-None-clause-ok
returns-in_ok-note-in-None-clause-ok c own cs steps e =
    returns-in_ok-note-in-None-clause-after c ∙ ap (λ v. after_step v c.args.step) e ∙ after_push own cs steps c.args.step

pub returns-in_ok-note-in-None-clause-landed : goal.returns-in_ok-note-in-None-clause-landed
returns-in_ok-note-in-None-clause-landed c own cs steps e =
    landed_strange own cs steps c.args.step c.args.self.now e ((returns-in_ok-note-in-None-clause-stranger c).0 refl)

-- ---- a slot has it

pub returns-in_ok-outcome-in-Some-clause-after : goal.returns-in_ok-outcome-in-Some-clause-after
returns-in_ok-outcome-in-Some-clause-after c =
    let w : WorldView = record { slots = c.self.inside.slots.items; strangers = c.self.inside.strangers } in
    let found = found_at w.slots _ c.args.step.address.0 _ some_slot c.self.invariant (sym c.in-Some.ensures) in
    let apart = subst AreApart c.self.invariant.places c.self.invariant.apart in
    ap (λ bs. record { slots = bs; strangers = w.strangers }) (c.in_ok-outcome-in-Some.ensures.ok some_slot)
    ∙ after_own c.args.step w c.in-Some.place some_slot apart found.0 found.1 ∙ ap (λ v. after_step v c.args.step) c.self.view_is

pub returns-in_ok-outcome-in-Some-clause-stranger : goal.returns-in_ok-outcome-in-Some-clause-stranger
returns-in_ok-outcome-in-Some-clause-stranger c =
    let w : WorldView = record { slots = c.self.inside.slots.items; strangers = c.self.inside.strangers } in
    let found = found_at w.slots _ c.args.step.address.0 _ some_slot c.self.invariant (sym c.in-Some.ensures) in
    subst (λ (v : WorldView). (Slot c.in-Some.place c.in_ok-outcome-in-Some.outcome ≡ Stranger) ↔ (has_slot v.slots c.args.step ≡ false))
    c.self.view_is
    (stranger_own w.slots c.args.step c.in-Some.place some_slot c.in_ok-outcome-in-Some.outcome found.0 found.1)

pub returns-in_ok-outcome-in-Some-clause-slot : goal.returns-in_ok-outcome-in-Some-clause-slot
returns-in_ok-outcome-in-Some-clause-slot c =
    let w : WorldView = record { slots = c.self.inside.slots.items; strangers = c.self.inside.strangers } in
    let found = found_at w.slots _ c.args.step.address.0 _ some_slot c.self.invariant (sym c.in-Some.ensures) in
    subst (λ (v : WorldView). AnsweredBy v.slots c.args.step (Slot c.in-Some.place c.in_ok-outcome-in-Some.outcome)) c.self.view_is
    (answered_own w.slots c.args.step c.in-Some.place some_slot c.in_ok-outcome-in-Some.outcome found.0 found.1
    (c.in_ok-outcome-in-Some.ensures.outcome some_slot))

pub returns-in_ok-outcome-in-Some-clause-ok : goal.returns-in_ok-outcome-in-Some-clause-ok
returns-in_ok-outcome-in-Some-clause-ok c own cs steps e =
    returns-in_ok-outcome-in-Some-clause-after c ∙ ap (λ v. after_step v c.args.step) e ∙ after_push own cs steps c.args.step

pub returns-in_ok-outcome-in-Some-clause-landed : goal.returns-in_ok-outcome-in-Some-clause-landed
returns-in_ok-outcome-in-Some-clause-landed c own cs steps e =
    landed_own own cs steps c.args.step c.args.self.now c.in-Some.place c.in_ok-outcome-in-Some.outcome e
    (returns-in_ok-outcome-in-Some-clause-slot c)
