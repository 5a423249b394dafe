-- The meter of an address, by the slots behind some lines.
use Rattle.std.proofs.Common.{◌≡◌, ◌==◌, ◌||◌, ℕ, zero, suc, Bool, true, false, cond, List, [], ◌∷◌, ◌++◌, map, reverse, Option, Some, None, refl, sym, ap, ◌∙◌, inl, inr}
use Rattle.std.specs.Prelude.{slice_get, option_to_list}
use Rattle.std.specs.List.{list_any}
use Rattle.std.proofs.lemmas.Bool.{eq-eqb, eqb-true, false_from_ne_true, or_parts}
use Rattle.std.proofs.lemmas.List.{append_cancel_left, reverse-append}
use Rattle.std.proofs.lemmas.Option.{same_Some}
use Rattle.std.proofs.lemmas.Simd.{map-map}
use Rattle.lists.proofs.Choices.{chosen}
use Rattle.meter_address.specs.declared.address.Address.{Address}
use Rattle.meter_address.specs.Address.{AreApart}
use Rattle.meter_slots.specs.declared.entry.Entry.{Entry}
use Rattle.meter_slots.specs.declared.entry.Event.{Event}
use Rattle.meter_slots.specs.declared.reading.Reading.{Reading}
use Rattle.meter_slots.specs.declared.standing.Served.{Served}
use Rattle.meter_slots.specs.declared.step.Step.{Step}
use Rattle.meter_slots.specs.Journal.{Start, SlotView, commission_of, standing, stored, reading_of, readings, readings_back}
use Rattle.meter_worlds.specs.PassingWorld.{IsServed, step_for}
use Rattle.meter_slots.specs.World.{has_slot, outcome_at, slot_of, stepped_slot}
use Rattle.receivers.specs.Alone.{steps_of}
use Rattle.receivers.specs.Classes.{class_by}
use Rattle.receivers.specs.declared.class.Class.TheVariants as classes
use Rattle.receivers.specs.declared.told.Told.{Told}
use Rattle.receivers.specs.declared.told.Told.TheVariants as told
use Rattle.receivers.proofs.Lone.{step_class}
use Rattle.step_text.specs.Lines.{step_line}
use Rattle.steps_main.specs.Steps.{reading_by, served_by, start_for, event_told}
use Rattle.steps_main.specs.Telling.{answer_told, answer_class}

abbrev address_of : Start → Address
address_of c = c.address

-- whether some meter has this address
abbrev is_there : ℕ → List Start → Bool
is_there n starts = list_any (λ a. a.0 == n) (map address_of starts)

-- ---- where there is none, and where there is one

none_for : (starts : List Start) (a : Address) → is_there a.0 starts ≡ false → start_for starts a ≡ None
none_for [] a none = refl
none_for (c ∷ starts) a none =
    let parts = or_parts (c.address.0 == a.0) (is_there a.0 starts) none in
    ap (λ b. cond b (Some c) (start_for starts a)) parts.0 ∙ none_for starts a parts.1

there_for : (starts : List Start) (a : Address) (c : Start) → start_for starts a ≡ Some c → is_there a.0 starts ≡ true
there_for [] a c found = absurd cc
there_for (d ∷ starts) a c found = elim (chosen (d.address.0 == a.0) (Some d) (start_for starts a) (Some c) found) [
  | inl here ↦ ap (λ b. b || is_there a.0 starts) here.0
  | inr later ↦ ap (λ b. b || is_there a.0 starts) later.0 ∙ there_for starts a c later.1
]

other_first : (c : Start) (starts : List Start) (n : ℕ) → is_there c.address.0 starts ≡ false → is_there n starts ≡ true
    → (c.address.0 == n) ≡ false
other_first c starts n none some =
    false_from_ne_true _ (λ same.
    let clash : false ≡ true = sym none ∙ ap (λ m. is_there m starts) (eqb-true c.address.0 n same) ∙ some in cc)

-- the slot at a place is that of the meter with its address
pub record IsOf (own : Address) (steps : List Step) (starts : List Start) (a : Address) (b : SlotView) : Type 0 where
  pub start : Start
  pub found : start_for starts a ≡ Some start
  pub is : b ≡ slot_of own steps start

slot_for : (own : Address) (steps : List Step) (starts : List Start) (a : Address) (place : ℕ) (b : SlotView)
    → AreApart (map address_of starts)
    → slice_get (map (slot_of own steps) starts) place ≡ Some b → b.start.address.0 ≡ a.0 → IsOf own steps starts a b
slot_for own steps [] a place b apart at is = absurd cc
slot_for own steps (c ∷ starts) a zero b apart at is =
    let same : slot_of own steps c ≡ b = same_Some _ _ at in record {
      start = c;
      found = ap (λ t. cond t (Some c) (start_for starts a))
          (eq-eqb c.address.0 a.0 (ap (λ (s : SlotView). s.start.address.0) same ∙ is));
      is = sym same;
    }
slot_for own steps (c ∷ starts) a (suc place) b apart at is =
    let later = slot_for own steps starts a place b apart.1 at is in record {
      start = later.start;
      found = ap (λ t. cond t (Some c) (start_for starts a))
          (other_first c starts a.0 apart.0 (there_for starts a later.start later.found))
          ∙ later.found;
      is = later.is;
    }

-- ---- what is answered

first_of : (r : Option Reading) → slice_get (option_to_list r) 0 ≡ r
first_of None = refl
first_of (Some r) = refl

-- the reading that a step adds is the one that is stored
reading_is : (b : SlotView) (s : Step) (r : Option Reading)
    → readings b.start (stepped_slot s b).journal ≡ readings b.start b.journal ++ option_to_list r → r ≡ reading_by b s.event
unfolding readings
reading_is b s r e =
    let x : Entry = record { source = s.source; line = s.line; event = s.event; outcome = outcome_at b s } in
    let added = reading_of s.event (stored (commission_of b.start) (standing b.start (reverse b.journal)) s.event) in
    let more : readings_back b.start (reverse (b.journal ++ x ∷ [])) ≡ readings_back b.start (reverse b.journal) ++ added =
    ap (readings_back b.start) (reverse-append b.journal (x ∷ [])) in
    let same : added ≡ option_to_list r =
    append_cancel_left (readings_back b.start (reverse b.journal)) added (option_to_list r) (sym more ∙ e) in
    sym (ap (λ rs. slice_get rs 0) same ∙ first_of r)

has_slot_there : (own : Address) (steps : List Step) (starts : List Start) (s : Step)
    → has_slot (map (slot_of own steps) starts) s ≡ is_there s.address.0 starts
has_slot_there own steps [] s = refl
has_slot_there own steps (c ∷ starts) s = ap (λ t. (c.address.0 == s.address.0) || t) (has_slot_there own steps starts s)

module _ (own : Address) (starts : List Start) (before : List Told) (n : ℕ) (a : Address) (e : Event)
    (apart : AreApart (map address_of starts)) where
  abbrev steps : List Step
  steps = steps_of 1 before

  abbrev slots : List SlotView
  slots = map (slot_of own steps) starts

  abbrev step : Step
  step = step_for 1 n a e

  -- what is told of an event is what its meter answers behind the lines before
  pub answer_is : (answer : Option (ℕ × Served)) → IsServed slots step answer
      → answer_told n a e answer ≡ event_told own before n a e (start_for starts a)
  answer_is None served =
      let none = none_for starts a (sym (has_slot_there own steps starts step) ∙ served) in
      ap (event_told own before n a e) (sym none)
  answer_is (Some (place, given)) (b, at, address, outcome, read) =
      let of = slot_for own steps starts a place b apart at address in
      let same : given ≡ served_by b e =
      (λ i. record { outcome = outcome i; reading = reading_is b step given.reading read i }) in
      ap (step_line n a e) (same ∙ ap (λ (s : SlotView). served_by s e) of.is)
      ∙ ap (event_told own before n a e) (sym of.found)

  class_there : (b : Bool) → has_slot slots step ≡ b
      → class_by (map address_of starts) (told.Event a e) ≡ cond b classes.Own classes.Strange
  class_there b is =
      ap (λ d. class_by d (told.Event a e)) (sym (map-map (λ (b : SlotView). b.start.address) (slot_of own steps) starts))
      ∙ step_class (record { slots = slots; strangers = [] }) step ∙ ap (λ t. cond t classes.Own classes.Strange) is

  -- the class of its line is by whether there is such a meter
  pub class_is : (answer : Option (ℕ × Served)) → IsServed slots step answer
      → answer_class answer ≡ class_by (map address_of starts) (told.Event a e)
  class_is None served = sym (class_there false served)
  class_is (Some (place, given)) (b, at, address, outcome, read) =
      let of = slot_for own steps starts a place b apart at address in
      sym (class_there true (has_slot_there own steps starts step ∙ there_for starts a of.start of.found))
