-- Many slots that keep no journal, and one step more.
use Rattle.std.proofs.Common.{◌≡◌, ℕ, zero, suc, ◌<◌, ◌≤◌, ◌==◌, true, false, List, [], ◌∷◌, ◌++◌, length, get_or, set, map, reverse}
use Rattle.std.proofs.Common.{Option, Some, None, refl, ap, sym, ◌∙◌, subst, arith}
use Rattle.std.specs.Prelude.{slice_get, option_to_list, position}
use Rattle.std.proofs.lemmas.Option.{slice_get-get_or}
use Rattle.lists.proofs.Members.{with_fold}
use Rattle.meter_address.specs.declared.address.Address.{Address}
use Rattle.meter_slots.specs.declared.entry.Entry.{Entry}
use Rattle.meter_slots.specs.declared.entry.Outcome.{Outcome}
use Rattle.meter_worlds.specs.declared.passing_world.PassingMeter.{PassingMeter}
use Rattle.meter_slots.specs.declared.reading.Reading.{Reading}
use Rattle.meter_slots.specs.declared.standing.Served.{Served}
use Rattle.meter_slots.specs.declared.step.Step.{Step}
use Rattle.meter_address.specs.Address.{AreApart}
use Rattle.meter_slots.specs.Journal.{Start, SlotView, commission_of, outcome, readings}
use Rattle.meter_slots.specs.Passing.{IsAfter}
use Rattle.meter_worlds.specs.PassingWorld.{has_steps, IsPassing, ArePassing, IsServed, kept_at, LeavesOthers, HasServed}
use Rattle.meter_worlds.specs.PassingWorld.{HasServedAt, fresh_view, AreOrdered, PassingIsKnown}
use Rattle.meter_slots.specs.Resuming.{last_of, later_of, resumed}
use Rattle.meter_slots.specs.World.{WorldView, fresh_slot, outcome_at, stepped_slot, slot_after, address_of_slot}
use Rattle.meter_worlds.specs.Order.{IsOrdered}
use Rattle.meter_slots.proofs.Passages.{passing_known}
use Rattle.meter_worlds.proofs.Worlds.{none_found, found_at, after_strange, after_own, some_slot}

-- ---- one meter

last_more : (before : Option Reading) (rs : List Reading) (reading : Option Reading)
    → last_of before (rs ++ option_to_list reading) ≡ later_of (last_of before rs) reading
last_more before (x ∷ rs) reading = last_more (Some x) rs reading
last_more before [] None = refl
last_more before [] (Some r) = refl

some_steps : (journal : List Entry) (x : Entry) → has_steps (journal ++ x ∷ []) ≡ true
some_steps [] x = refl
some_steps (y ∷ journal) x = refl

-- a meter once a reading was kept
abbrev pub after_reading : Option Reading → PassingMeter → PassingMeter
after_reading reading m = record m { last = later_of m.last reading }

module _ (b : SlotView) (m new : PassingMeter) (s : Step) (served : Served) (p : IsPassing b m) (h : HasServed m new s.event served) where
  pub given : served.outcome ≡ outcome_at b s
  given =
      h.outcome_is b.journal p.after ∙ ap (λ (c : Start). outcome c m.slot.own (reverse b.journal) s.event) p.start_is
      ∙ ap (λ (own : Address). outcome b.start own (reverse b.journal) s.event) p.own_is

  abbrev entry : Outcome → Entry
  entry o = record { source = s.source; line = s.line; event = s.event; outcome = o }

  pub read : readings b.start (stepped_slot s b).journal ≡ readings b.start b.journal ++ option_to_list served.reading
  read =
      ap (λ (o : Outcome). readings b.start (b.journal ++ entry o ∷ [])) (sym given)
      ∙ subst (λ (c : Start). readings c (b.journal ++ entry served.outcome ∷ [])
      ≡ readings c b.journal ++ option_to_list served.reading) p.start_is (h.reading_is b.journal s.source s.line p.after)

  pub passing_stepped : IsPassing (stepped_slot s b) (after_reading served.reading new)
  passing_stepped = record {
    own_is = h.own_is ∙ p.own_is;
    start_is = h.start_is ∙ p.start_is;
    after = subst (λ (o : Outcome). IsAfter (b.journal ++ entry o ∷ []) new.slot) given (h.after b.journal s.source s.line p.after);
    last_is = ap (λ (l : Option Reading). later_of l served.reading) (h.last_is ∙ p.last_is)
        ∙ sym (last_more None (readings b.start b.journal) served.reading) ∙ ap (last_of None) (sym read);
    stepped_is = h.stepped_is ∙ sym (some_steps b.journal (entry (outcome_at b s)));
  }

-- ---- lists of them

same_addresses : (bs : List SlotView) (ms : List PassingMeter) → ArePassing bs ms
    → map address_of_slot (map fresh_view ms) ≡ map address_of_slot bs
same_addresses =
    with_fold IsPassing (λ bs ms. map address_of_slot (map fresh_view ms) ≡ map address_of_slot bs) refl (λ b m bs ms p _ rest.
    ap (λ (c : Start). c.address ∷ map address_of_slot (map fresh_view ms)) p.start_is ∙ ap (λ xs. b.start.address ∷ xs) rest)

ordered_as : (bs : List SlotView) (ms : List PassingMeter) (directory : List Address) → ArePassing bs ms → AreOrdered ms directory
    → IsOrdered bs directory
ordered_as bs ms directory all ordered =
    record { places = ordered.places ∙ same_addresses bs ms all; apart = ordered.apart }

passing_at : (bs : List SlotView) (ms : List PassingMeter) (place : ℕ) (b : SlotView) (d : PassingMeter) → ArePassing bs ms
    → place < length bs → IsPassing (get_or bs place b) (get_or ms place d)
passing_at [] ms place b d all within = absurd (omega arith)
passing_at (y ∷ bs) [] place b d all within = absurd all
passing_at (y ∷ bs) (x ∷ ms) zero b d all within = all.0
passing_at (y ∷ bs) (x ∷ ms) (suc place) b d all within = passing_at bs ms place b d all.1 (omega arith)

passing_set : (bs : List SlotView) (ms : List PassingMeter) (place : ℕ) (b : SlotView) (m : PassingMeter) → ArePassing bs ms
    → IsPassing b m → ArePassing (set bs place b) (set ms place m)
passing_set [] [] place b m all p = tt
passing_set (y ∷ bs) (x ∷ ms) zero b m all p = (p, all.1)
passing_set (y ∷ bs) (x ∷ ms) (suc place) b m all p = (all.0, passing_set bs ms place b m all.1 p)
passing_set _ _ place b m all p = absurd all

kept_in : (ms : List PassingMeter) (place : ℕ) (m : PassingMeter) (reading : Option Reading)
    → kept_at place reading (set ms place m) ≡ set ms place (after_reading reading m)
kept_in (x ∷ ms) (suc place) m reading = ap (λ xs. x ∷ xs) (kept_in ms place m reading)
kept_in _ _ m reading = refl

-- ---- a reading that is kept

pub kept_set : (ms : List PassingMeter) (place : ℕ) (d : PassingMeter) (reading : Option Reading) → place < length ms
    → set ms place (after_reading reading (get_or ms place d)) ≡ kept_at place reading ms
kept_set [] place d reading within = absurd (omega arith)
kept_set (x ∷ ms) zero d reading within = refl
kept_set (x ∷ ms) (suc place) d reading within = ap (λ xs. x ∷ xs) (kept_set ms place d reading (omega arith))

pub kept_past : (ms : List PassingMeter) (place : ℕ) (reading : Option Reading) → length ms ≤ place → kept_at place reading ms ≡ ms
kept_past [] place reading past = refl
kept_past (x ∷ ms) zero reading past = absurd (omega arith)
kept_past (x ∷ ms) (suc place) reading past = ap (λ xs. x ∷ xs) (kept_past ms place reading (omega arith))

kept_views : (ms : List PassingMeter) (place : ℕ) (reading : Option Reading) → map fresh_view (kept_at place reading ms) ≡ map fresh_view ms
kept_views (x ∷ ms) (suc place) reading = ap (λ xs. fresh_view x ∷ xs) (kept_views ms place reading)
kept_views _ _ reading = refl

pub kept_ordered : (ms : List PassingMeter) (directory : List Address) (place : ℕ) (reading : Option Reading) → AreOrdered ms directory
    → AreOrdered (kept_at place reading ms) directory
kept_ordered ms directory place reading ordered =
    subst (λ (bs : List SlotView). IsOrdered bs directory) (sym (kept_views ms place reading)) ordered

-- some meter, where a read of a list asks for a default
abbrev pub some_meter : PassingMeter
some_meter = record {
  slot = record {
    own = some_slot.own;
    start = some_slot.start;
    kept = record { commission = commission_of some_slot.start; last = None; parts = []; orders = some_slot.start.orders };
  };
  last = None;
  stepped = false;
}

-- ---- a step of all

module _ (ms : List PassingMeter) (directory : List Address) (s : Step) (ordered : AreOrdered ms directory) where
  pub strange_served : position (λ a. a.0 == s.address.0) directory ≡ None → (bs : List SlotView) → ArePassing bs ms
      → IsServed bs s None
  strange_served none bs all = none_found bs directory s.address.0 (ordered_as bs ms directory all ordered) none

  pub strange_after : position (λ a. a.0 == s.address.0) directory ≡ None → (bs : List SlotView) → ArePassing bs ms
      → ArePassing (map (slot_after s) bs) ms
  strange_after none bs all =
      let w : WorldView = record { slots = bs; strangers = [] } in
      subst (λ xs. ArePassing xs ms)
      (ap (λ (v : WorldView). v.slots)
      (after_strange s w (none_found bs directory s.address.0 (ordered_as bs ms directory all ordered) none))) all

  module _ (place : ℕ) (d : PassingMeter) (news : List PassingMeter) (served : Served)
      (found : position (λ a. a.0 == s.address.0) directory ≡ Some place)
      (h : HasServedAt ms news place (get_or ms place d) s.event served) where
    pub own_served : (bs : List SlotView) → ArePassing bs ms → IsServed bs s (Some (place, served))
    own_served bs all =
        let at = found_at bs directory s.address.0 place some_slot (ordered_as bs ms directory all ordered) found in
        let b = get_or bs place some_slot in
        let p = passing_at bs ms place some_slot d all at.0 in (
          b,
          slice_get-get_or bs place some_slot at.0,
          at.1,
          given b (get_or ms place d) h.new s served p h.served_is,
          read b (get_or ms place d) h.new s served p h.served_is,
        )

    pub own_after : (bs : List SlotView) → ArePassing bs ms → ArePassing (map (slot_after s) bs) (kept_at place served.reading news)
    own_after bs all =
        let is_ordered = ordered_as bs ms directory all ordered in
        let at = found_at bs directory s.address.0 place some_slot is_ordered found in
        let b = get_or bs place some_slot in
        let w : WorldView = record { slots = bs; strangers = [] } in
        let p = passing_at bs ms place some_slot d all at.0 in
        let apart = subst AreApart is_ordered.places is_ordered.apart in
        let slots_are : set bs place (stepped_slot s b) ≡ map (slot_after s) bs =
        ap (λ (v : WorldView). v.slots) (after_own s w place some_slot apart at.0 at.1) in
        let meters_are : set ms place (after_reading served.reading h.new) ≡ kept_at place served.reading news =
        sym (kept_in ms place h.new served.reading) ∙ ap (kept_at place served.reading) (sym h.news_are) in
        subst (λ xs. ArePassing xs (kept_at place served.reading news)) slots_are
        (subst (ArePassing (set bs place (stepped_slot s b))) meters_are
        (passing_set bs ms place (stepped_slot s b) (after_reading served.reading h.new) all
        (passing_stepped b (get_or ms place d) h.new s served p h.served_is)))

    set_view : (xs : List PassingMeter) (i : ℕ) (x : PassingMeter) → x.slot.start ≡ (get_or xs i d).slot.start
        → map address_of_slot (map fresh_view (set xs i x)) ≡ map address_of_slot (map fresh_view xs)
    set_view [] i x e = refl
    set_view (y ∷ xs) zero x e = ap (λ (c : Start). c.address ∷ map address_of_slot (map fresh_view xs)) e
    set_view (y ∷ xs) (suc i) x e = ap (λ zs. y.slot.start.address ∷ zs) (set_view xs i x e)

    pub own_ordered : AreOrdered news directory
    own_ordered = record {
      places = ordered.places ∙ sym (set_view ms place h.new h.served_is.start_is)
          ∙ ap (λ xs. map address_of_slot (map fresh_view xs)) (sym h.news_are);
      apart = ordered.apart;
    }

    get_else : (xs : List PassingMeter) (i j : ℕ) (x : PassingMeter) → (j ≡ i → ⊥) → slice_get (set xs i x) j ≡ slice_get xs j
    get_else (y ∷ xs) zero zero x off = absurd (off refl)
    get_else (y ∷ xs) (suc i) (suc j) x off = get_else xs i j x (λ e. off (ap suc e))
    get_else _ _ _ x off = refl

    pub own_others : LeavesOthers ms news (Some (place, served))
    own_others i off = ap (λ xs. slice_get xs i) h.news_are ∙ get_else ms place i h.new off

pub fresh_ordered : (own : Address) (cs : List Start) (ms : List PassingMeter) (directory : List Address)
    → ArePassing (map (fresh_slot own) cs) ms → IsOrdered (map (fresh_slot own) cs) directory → AreOrdered ms directory
fresh_ordered own cs ms directory all ordered =
    record { places = ordered.places ∙ sym (same_addresses (map (fresh_slot own) cs) ms all); apart = ordered.apart }

-- ---- what is known

pub passing_is_known : PassingIsKnown
passing_is_known b m p =
    let last : m.last ≡ last_of None (readings m.slot.start b.journal) =
    p.last_is ∙ ap (λ (c : Start). last_of None (readings c b.journal)) (sym p.start_is) in
    (passing_known m.slot m.last b.journal p.after last ∙ ap (λ (c : Start). resumed c b.journal) p.start_is, p.stepped_is)
