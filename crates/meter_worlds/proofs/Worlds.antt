-- A step of a world: the one place that the directory gives, and where the step lands.
use Rattle.std.proofs.Common.{◌≡◌, ◌↔◌, ℕ, zero, suc, ◌<◌, ◌≤◌, ◌==◌, Bool, true, false, not, cond, List, [], ◌∷◌, ◌++◌, length}
use Rattle.std.proofs.Common.{get_or, set, map, Some, None, refl, ap, sym, ◌∙◌, arith, subst}
use Rattle.std.specs.Prelude.{Option, position, slice_get, option_map}
use Rattle.lists.proofs.Choices.{none_if}
use Rattle.std.proofs.lemmas.Bool.{true≢false, eq-eqb, eqb-true, not-true, or_parts}
use Rattle.std.proofs.lemmas.Option.{slice_get-get_or, slice_get-map}
use Rattle.std.specs.List.{list_any, position_or_len}
use Rattle.std.proofs.lemmas.Bool.Decides.{nat_tests}
use Rattle.std.proofs.lemmas.List.{length-map}
use Rattle.std.proofs.Math.ListN.{get_or-map}
use Rattle.std.proofs.lemmas.List.Elements.{All-from_get_or}
use Rattle.std.proofs.lemmas.List.Folds.{list_any_at, list_any_none}
use Rattle.std.proofs.lemmas.List.Quantifiers.{position-Some}
use Rattle.std.proofs.lemmas.Simd.{map-map}
use Rattle.std.proofs.lemmas.List.Sums.{prefix_len_passes}
use Rattle.meter_address.specs.Address.{AreApart}
use Rattle.meter_address.specs.declared.address.Address.{Address}
use Rattle.meter_address.specs.declared.commission.Mode.TheVariants.{Seven}
use Rattle.command_queue.specs.declared.window.Window.TheVariants.{Idle}
use Rattle.meter_directory.proofs.Places.{none_at}
use Rattle.meter_slots.specs.declared.entry.Outcome.{Outcome}
use Rattle.meter_slots.specs.declared.step.Landed.TheVariants.{Slot, Stranger}
use Rattle.meter_slots.specs.declared.step.Step.{Step}
use Rattle.meter_slots.specs.Journal.{Start, SlotView}
use Rattle.meter_slots.specs.World.{slot_of, heard_of}
use Rattle.meter_slots.specs.World.{WorldView, world_of, Lands, fresh_slot, outcome_at, stepped_slot, has_slot, slot_after}
use Rattle.meter_slots.specs.World.{after_step, AnsweredBy, address_of_slot}
use Rattle.meter_slots.proofs.Worlds.{addresses_stay, any-map, has_number}
use Rattle.meter_worlds.specs.Order.{IsOrdered}

-- ---- a step at the one place

abbrev Lacks : ℕ → List SlotView → Type 0
Lacks n bs = list_any (has_number n) bs ≡ false

stepped_lacks : (s : Step) (bs : List SlotView) → Lacks s.address.0 bs → map (slot_after s) bs ≡ bs
stepped_lacks s [] h = refl
stepped_lacks s (b ∷ bs) h =
    let parts = or_parts (has_number s.address.0 b) (list_any (has_number s.address.0) bs) h in
    ap (λ t. cond t (stepped_slot s b) b ∷ map (slot_after s) bs) parts.0 ∙ ap (λ xs. b ∷ xs) (stepped_lacks s bs parts.1)

other_number : (x b s : ℕ) → (x == b) ≡ false → x ≡ s → (b == s) ≡ false
other_number x b s h e = grind (arith, nat_tests)

set_stepped : (bs : List SlotView) (place : ℕ) (s : Step) (d : SlotView) → AreApart (map address_of_slot bs) → place < length bs
    → (get_or bs place d).start.address.0 ≡ s.address.0
    → set bs place (stepped_slot s (get_or bs place d)) ≡ map (slot_after s) bs
set_stepped [] place s d a h e = absurd (omega arith)
set_stepped (b ∷ bs) zero s d a h e =
    let lacks : Lacks s.address.0 bs = subst (λ n. Lacks n bs) e (sym (any-map (λ (a : Address). a.0 == b.start.address.0) address_of_slot bs) ∙ a.0) in
    ap (λ bs'. stepped_slot s b ∷ bs') (sym (stepped_lacks s bs lacks))
    ∙ ap (λ t. cond t (stepped_slot s b) b ∷ map (slot_after s) bs) (sym (eq-eqb b.start.address.0 s.address.0 e))
set_stepped (b ∷ bs) (suc place) s d a h e =
    let lacks : Lacks b.start.address.0 bs = sym (any-map (λ (a : Address). a.0 == b.start.address.0) address_of_slot bs) ∙ a.0 in
    let differs =
    other_number (get_or bs place d).start.address.0 b.start.address.0 s.address.0
    (none_at (has_number b.start.address.0) bs place d lacks (omega arith)) e in
    ap (λ bs'. b ∷ bs') (set_stepped bs place s d a.1 (omega arith) e)
    ∙ ap (λ t. cond t (stepped_slot s b) b ∷ map (slot_after s) bs) (sym differs)

-- ---- the place that the directory gives

pub none_found : (bs : List SlotView) (directory : List Address) (n : ℕ) → IsOrdered bs directory
    → position (λ a. a.0 == n) directory ≡ None → Lacks n bs
none_found bs directory n ordered h =
    let p : Address → Bool = λ a. a.0 == n in
    let past : length directory ≤ position_or_len p directory = let test = none_if _ _ h in grind (arith, nat_tests) in
    let none : list_any p directory ≡ false =
    list_any_none p directory (All-from_get_or (λ a. p a ≡ false) directory (record { 0 = 0 })
    (λ k within. not-true _ (prefix_len_passes (λ a. not (p a)) directory k (record { 0 = 0 }) (omega arith)))) in
    sym (any-map p address_of_slot bs) ∙ ap (list_any p) (sym ordered.places) ∙ none

pub found_at : (bs : List SlotView) (directory : List Address) (n place : ℕ) (d : SlotView) → IsOrdered bs directory
    → position (λ a. a.0 == n) directory ≡ Some place
    → (place < length bs) × ((get_or bs place d).start.address.0 ≡ n)
found_at bs directory n place d ordered h =
    let found = position-Some (λ a. a.0 == n) directory place (address_of_slot d) h in
    let within : place < length bs = omega (arith, ap length ordered.places, length-map bs address_of_slot, found.0) in
    let same : (get_or bs place d).start.address.0 ≡ (get_or directory place (address_of_slot d)).0 =
    ap (λ (a : Address). a.0) (sym (get_or-map address_of_slot bs place d) ∙ ap (λ xs. get_or xs place (address_of_slot d))
    (sym ordered.places)) in
    (within, same ∙ eqb-true (get_or directory place (address_of_slot d)).0 n found.1)

-- ---- the order is kept

pub ordered_step : (bs new : List SlotView) (directory : List Address) (place : ℕ) (s : Step) (d : SlotView) → IsOrdered bs directory
    → place < length bs → (get_or bs place d).start.address.0 ≡ s.address.0
    → new ≡ set bs place (stepped_slot s (get_or bs place d)) → IsOrdered new directory
ordered_step bs new directory place s d ordered within same made =
    let apart : AreApart (map address_of_slot bs) = subst AreApart ordered.places ordered.apart in
    record {
      places =
          ordered.places ∙ sym (addresses_stay s bs) ∙ ap (map address_of_slot) (sym (made ∙ set_stepped bs place s d apart within same));
      apart = ordered.apart;
    }

pub ordered_fresh : (own : Address) (cs : List Start) → AreApart (map (λ c. c.address) cs)
    → IsOrdered (map (fresh_slot own) cs) (map (λ c. c.address) cs)
ordered_fresh own cs apart = record { places = sym (map-map address_of_slot (fresh_slot own) cs); apart = apart }

-- ---- a world after one more step

pub world_fresh : (own : Address) (cs : List Start) → record { slots = map (fresh_slot own) cs; strangers = [] } ≡ world_of own cs []
unfolding world_of
world_fresh own cs = refl

pub after_strange : (s : Step) (w : WorldView) → Lacks s.address.0 w.slots
    → record { slots = w.slots; strangers = w.strangers ++ heard_of s ∷ [] } ≡ after_step w s
after_strange s w h =
    ap (λ bs. record { slots = bs; strangers = w.strangers ++ heard_of s ∷ [] }) (sym (stepped_lacks s w.slots h))
    ∙ ap (λ t. record { slots = map (slot_after s) w.slots; strangers = cond t w.strangers (w.strangers ++ heard_of s ∷ []) }) (sym h)

pub after_own : (s : Step) (w : WorldView) (place : ℕ) (d : SlotView) → AreApart (map address_of_slot w.slots) → place < length w.slots
    → (get_or w.slots place d).start.address.0 ≡ s.address.0
    → record { slots = set w.slots place (stepped_slot s (get_or w.slots place d)); strangers = w.strangers } ≡ after_step w s
after_own s w place d a h same =
    ap (λ bs. record { slots = bs; strangers = w.strangers }) (set_stepped w.slots place s d a h same)
    ∙ ap (λ t. record { slots = map (slot_after s) w.slots; strangers = cond t w.strangers (w.strangers ++ heard_of s ∷ []) })
    (sym (list_any_at (has_number s.address.0) w.slots place d h (eq-eqb _ _ same)))

-- ---- where a step lands

pub landed_strange : (own : Address) (cs : List Start) (steps : List Step) (s : Step) (w : WorldView) → w ≡ world_of own cs steps
    → Lacks s.address.0 w.slots → Lands own cs steps s Stranger
unfolding world_of
landed_strange own cs steps s w e h =
    sym (any-map (has_number s.address.0) (slot_of own steps) cs) ∙ sym (ap (λ (v : WorldView). list_any (has_number s.address.0) v.slots) e) ∙ h

landed_by : (own : Address) (cs : List Start) (steps : List Step) (s : Step) (place : ℕ) (given : Outcome)
    → AnsweredBy (map (slot_of own steps) cs) s (Slot place given) → Lands own cs steps s (Slot place given)
landed_by own cs steps s place given h = at (slice_get cs place) refl (sym (slice_get-map (slot_of own steps) cs place) ∙ h.1)
  where
    at : (o : Option Start) → slice_get cs place ≡ o → option_map (slot_of own steps) o ≡ Some h.0 → Lands own cs steps s (Slot place given)
    at None is e = absurd cc
    at (Some c) is e =
        let same : slot_of own steps c ≡ h.0 = cc in
        (c, is, ap (λ (b : SlotView). b.start.address.0) same ∙ h.2, h.3 ∙ ap (λ (b : SlotView). outcome_at b s) (sym same))

pub landed_own : (own : Address) (cs : List Start) (steps : List Step) (s : Step) (w : WorldView) (place : ℕ) (given : Outcome)
    → w ≡ world_of own cs steps → AnsweredBy w.slots s (Slot place given) → Lands own cs steps s (Slot place given)
unfolding world_of
landed_own own cs steps s w place given e h =
    landed_by own cs steps s place given (subst (λ (v : WorldView). AnsweredBy v.slots s (Slot place given)) e h)

pub answered_own : (bs : List SlotView) (s : Step) (place : ℕ) (d : SlotView) (given : Outcome) → place < length bs
    → (get_or bs place d).start.address.0 ≡ s.address.0 → given ≡ outcome_at (get_or bs place d) s → AnsweredBy bs s (Slot place given)
answered_own bs s place d given l a h = (get_or bs place d, slice_get-get_or bs place d l, a, h)

pub stranger_strange : (bs : List SlotView) (s : Step) → Lacks s.address.0 bs → (Stranger ≡ Stranger) ↔ (has_slot bs s ≡ false)
stranger_strange bs s h = (λ e. h, λ n. refl)

pub stranger_own : (bs : List SlotView) (s : Step) (place : ℕ) (d : SlotView) (given : Outcome) → place < length bs
    → (get_or bs place d).start.address.0 ≡ s.address.0 → (Slot place given ≡ Stranger) ↔ (has_slot bs s ≡ false)
stranger_own bs s place d given l a =
    let found = list_any_at (has_number s.address.0) bs place d l (eq-eqb _ _ a) in
    (λ e. cc, λ n. absurd (true≢false (sym found ∙ n)))

-- some slot, where a read of a list asks for a default
abbrev pub some_slot : SlotView
some_slot =
    record {
      own = record { 0 = 0 };
      start = record {
        address = record { 0 = 0 };
        mode = Seven;
        key = [];
        other = None;
        last = None;
        told = [];
        orders = record { queue = record { ids = 0; commands = [] }; window = Idle; down = 0 };
        reading = None;
      };
      journal = [];
    }
