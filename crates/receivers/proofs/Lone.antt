-- A receiver that is heard alone: one line, and lines one after another.
use Rattle.std.proofs.Common.{◌≡◌, ◌≢◌, ◌↔◌, ◌==◌, ℕ, ◌+◌, List, [], ◌∷◌, ◌++◌, length, nat_lt, Bool, true, false, cond, Some, None, Result, Err, refl, sym, ap, ◌∙◌}
use Rattle.std.specs.Prelude.{position}
use Rattle.std.specs.List.{filter_map, list_any, position_or_len, enumerate_from}
use Rattle.std.proofs.lemmas.Bool.{true_from_ne_false}
use Rattle.lists.proofs.Places.{any_there}
use Rattle.std.proofs.lemmas.List.Elements.{filter_map-append}
use Rattle.outer_io.specs.declared.failures.Failed.{Failed}
use Rattle.meter_address.specs.declared.address.Address.{Address}
use Rattle.meter_slots.specs.declared.counts.Ended.{Ended}
use Rattle.meter_slots.specs.declared.counts.Ended.TheVariants as ends
use Rattle.meter_slots.specs.declared.entry.Event.{Event}
use Rattle.meter_slots.specs.declared.step.Landed.{Landed}
use Rattle.meter_slots.specs.declared.step.Landed.TheVariants.{Slot, Stranger}
use Rattle.meter_slots.specs.declared.step.Step.{Step}
use Rattle.meter_slots.specs.World.{WorldView, address_of_slot, has_slot}
use Rattle.receivers.specs.declared.class.Class.TheVariants as classes
use Rattle.receivers.specs.declared.told.Told.{Told}
use Rattle.receivers.specs.declared.told.Told.TheVariants as told
use Rattle.receivers.specs.Alone.{step_by, steps_among, steps_of, after_steps, addresses_in, HasHeardAlone, MakesAlone}
use Rattle.receivers.specs.Classes.{class_at, class_by}
use Rattle.receivers.specs.Run.{Hearing}
use Rattle.receivers.specs.Slots.{Hears, HearsAll, HearsTo, HasHeardFor}
use Rattle.meter_slots.proofs.Worlds.{any-map}
use Rattle.receivers.proofs.Numbers.{numbered}

-- ---- steps

pub steps_more : (source : ℕ) (heard : List Told) (t : Told) (line : ℕ) → line ≡ 1 + length heard
    → steps_of source (heard ++ t ∷ []) ≡ steps_of source heard ++ steps_among source ((line, t) ∷ [])
unfolding steps_among
steps_more source heard t line number =
    ap (filter_map (λ (l : ℕ × Told). step_by source l.0 l.1)) (numbered 1 heard t)
    ∙ (filter_map-append (λ (l : ℕ × Told). step_by source l.0 l.1) (enumerate_from 1 heard) ((1 + length heard, t) ∷ [])
    ∙ ap (λ (k : ℕ). filter_map (λ (l : ℕ × Told). step_by source l.0 l.1) (enumerate_from 1 heard) ++ filter_map
    (λ (l : ℕ × Told). step_by source l.0 l.1) ((k, t) ∷ [])) (sym number))

-- ---- classes

class_any : (p : Address → Bool) (xs : List Address) → class_at (position p xs) ≡ cond (list_any p xs) classes.Own classes.Strange
class_any p xs = by_test (nat_lt (position_or_len p xs) (length xs)) (position_or_len p xs)
    ∙ ap (λ b. cond b classes.Own classes.Strange) (any_there p xs)
  where
    by_test : (b : Bool) (j : ℕ) → class_at (cond b (Some j) None) ≡ cond b classes.Own classes.Strange
    by_test true j = refl
    by_test false j = refl

-- the class of a step's line, by whether some slot has its address
pub step_class : (world : WorldView) (s : Step)
    → class_by (addresses_in world) (told.Event s.address s.event) ≡ cond (has_slot world.slots s) classes.Own classes.Strange
step_class world s = class_any (λ (a : Address). a.0 == s.address.0) (addresses_in world)
    ∙ ap (λ b. cond b classes.Own classes.Strange) (any-map (λ (a : Address). a.0 == s.address.0) address_of_slot world.slots)

-- the class of a line that landed in a slot, and that of one that didn't
pub slot_class : (world : WorldView) (s : Step) (landed : Landed) (place : _) (outcome : _) → landed ≡ Slot place outcome
    → (landed ≡ Stranger) ↔ (has_slot world.slots s ≡ false)
    → classes.Own ≡ class_by (addresses_in world) (told.Event s.address s.event)
slot_class world s landed place outcome is which =
    sym (step_class world s ∙ ap (λ b. cond b classes.Own classes.Strange)
    (true_from_ne_false (has_slot world.slots s) (λ none. absurd (let e = which.1 none in cc))))

pub stranger_class : (world : WorldView) (s : Step) (landed : Landed) → landed ≡ Stranger
    → (landed ≡ Stranger) ↔ (has_slot world.slots s ≡ false)
    → classes.Strange ≡ class_by (addresses_in world) (told.Event s.address s.event)
stranger_class world s landed is which = sym (step_class world s ∙ ap (λ b. cond b classes.Own classes.Strange) (which.0 is))

-- ---- lines one after another

module _ {A K : Type 0} (world_in : A → WorldView) (source : ℕ) where
  abbrev pub Makes : ℕ → Address → Event → Result Unit Failed → A × K → A × K → Type 0
  Makes line address event sent p q = MakesAlone source line address event sent (world_in p.0) (world_in q.0) p.1 q.1

  abbrev pub Waits : A × K → A × K → Type 0
  Waits p q = (world_in q.0 ≡ world_in p.0) × (q.1 ≡ p.1)

  all_alone : (lines : List (ℕ × Told)) (x z : A × K) → HearsAll Makes lines x z
      → (world_in z.0 ≡ after_steps (world_in x.0) (steps_among source lines)) × (z.1 ≡ x.1)
  unfolding steps_among
  all_alone [] x z e = (ap (λ (p : A × K). world_in p.0) e, ap (λ (p : A × K). p.1) e)
  all_alone ((line, told.Event address event) ∷ lines) x z h = let r = all_alone lines h.0 z h.2 in
      (r.0 ∙ ap (λ (w : WorldView). after_steps w (steps_among source lines)) h.1.world_is, r.1 ∙ h.1.tx_is)
  all_alone ((line, t) ∷ lines) x z h = let r = all_alone lines h.0 z h.2 in
      (r.0 ∙ ap (λ (p : A × K). after_steps (world_in p.0) (steps_among source lines)) h.1.1, r.1 ∙ ap (λ (p : A × K). p.1) h.1.1)

  -- all that gives a downlink is written, since nothing is
  none_unsent : (line : ℕ) (t : Told) (fault : Failed) (y z : A × K) → Hears Makes line t (Err fault) y z → ⊥
  none_unsent line (told.Event address event) fault y z h = let e = h.none_sent in absurd cc
  none_unsent line _ fault y z h = let e = h.0 in absurd cc

  -- what lines that were heard alone leave, and the sink
  pub record LeavesAlone (how : Ended) (heard : List Told) (x z : A × K) : Type 0 where
    pub world_is : world_in z.0 ≡ after_steps (world_in x.0) (steps_of source heard)
    pub tx_is : z.1 ≡ x.1
    pub never : how ≢ ends.TxFault

  pub leaves_alone : (how : Ended) (heard : List Told) (x z : A × K) → HearsTo Makes Waits how heard x z → LeavesAlone how heard x z
  leaves_alone ends.Memory heard x z h = let r = all_alone (enumerate_from 1 heard) x h.0 h.1 in
      record { world_is = h.2.0 ∙ r.0; tx_is = h.2.1 ∙ r.1; never = λ is. absurd cc }
  leaves_alone ends.TxFault heard x z h = absurd (none_unsent (1 + length h.sent) h.last h.fault h.between z h.unsent)
  leaves_alone how heard x z h = let r = all_alone (enumerate_from 1 heard) x z h in
      record { world_is = r.0; tx_is = r.1; never = λ is. absurd cc }

  pub has_heard_alone : (h : Hearing) (x z : A × K) → HasHeardFor Makes Waits (addresses_in (world_in x.0)) h x z
      → HasHeardAlone source h (world_in x.0) (world_in z.0)
  has_heard_alone h x z heard = record {
    heard = heard.heard;
    has_heard = heard.has_heard;
    world_is = (leaves_alone h.ended heard.heard x z heard.hears).world_is;
  }
