-- Many slots that keep no journal. Contracts say what they answer by the slots that keep one: whatever the journals are after which these
-- stand, so that no code has them.
use Rattle.std.specs.Prelude.{◌≡◌, ℕ, zero, suc, Bool, true, false, List, [], ◌∷◌, ◌++◌, reverse, Option, Some, None, slice_get, slice_set, option_to_list, map}
use Rattle.lists.specs.Each.{EachWith}
use Rattle.meter_address.specs.declared.address.Address.{Address}
use Rattle.meter_slots.specs.declared.entry.Entry.{Entry}
use Rattle.meter_slots.specs.declared.entry.Event.{Event}
use Rattle.meter_worlds.specs.declared.passing_world.PassingMeter.{PassingMeter}
use Rattle.meter_slots.specs.declared.reading.Reading.{Reading}
use Rattle.meter_slots.specs.declared.standing.Served.{Served}
use Rattle.meter_slots.specs.declared.step.Step.{Step}
use Rattle.meter_slots.specs.Journal.{Start, SlotView, outcome, readings}
use Rattle.meter_slots.specs.Passing.{IsAfter, known_with}
use Rattle.meter_slots.specs.Resuming.{last_of, later_of, known_now}
use Rattle.meter_slots.specs.World.{outcome_at, stepped_slot, has_slot}
use Rattle.meter_worlds.specs.Order.{IsOrdered}

-- whether there was a step
abbrev pub has_steps : List Entry → Bool
has_steps [] = false
has_steps (x ∷ later) = true

-- A meter's slot without a journal stands for one that keeps it: it is as that journal leaves it, and the last reading is the journal's.
pub record IsPassing (slot : SlotView) (m : PassingMeter) : Type 0 where
  pub own_is : m.slot.own ≡ slot.own
  pub start_is : m.slot.start ≡ slot.start
  pub after : IsAfter slot.journal m.slot
  pub last_is : m.last ≡ last_of None (readings slot.start slot.journal)
  pub stepped_is : m.stepped ≡ has_steps slot.journal

-- what is known of a meter now, by what its slot keeps and its last reading
abbrev pub known_by : PassingMeter → Start
known_by m = known_with m.slot m.last

-- these meters' slots stand for those that keep their journals, in the same order
abbrev pub ArePassing : List SlotView → List PassingMeter → Type 0
ArePassing slots meters = EachWith IsPassing slots meters

-- an event for an address as a line of a receiver
abbrev pub step_for : (source line : ℕ) → Address → Event → Step
step_for source line address event = record { source = source; line = line; address = address; event = event }

-- What a step is answered: nothing where no slot has its address, and else what that slot answers to it, with the reading that the step adds
-- to those of the slot.
abbrev pub IsServed : List SlotView → Step → Option (ℕ × Served) → Type 0
IsServed slots s None = has_slot slots s ≡ false
IsServed slots s (Some (place, served)) =
    (b : SlotView) × (slice_get slots place ≡ Some b) × (b.start.address.0 ≡ s.address.0) × (served.outcome ≡ outcome_at b s)
    × (readings b.start (stepped_slot s b).journal ≡ readings b.start b.journal ++ option_to_list served.reading)

-- the meters after the reading that there may be was kept as the last one of the meter at a place
abbrev pub kept_at : ℕ → Option Reading → List PassingMeter → List PassingMeter
kept_at place reading [] = []
kept_at zero reading (m ∷ later) = record m { last = later_of m.last reading } ∷ later
kept_at (suc place) reading (m ∷ later) = m ∷ kept_at place reading later

-- the meters once the reading of what was answered is kept
abbrev pub keeping : Option (ℕ × Served) → List PassingMeter → List PassingMeter
keeping None meters = meters
keeping (Some (place, served)) meters = kept_at place served.reading meters

-- all meters but the one that answered are as they were
abbrev pub LeavesOthers : (olds news : List PassingMeter) → Option (ℕ × Served) → Type 0
LeavesOthers olds news None = news ≡ olds
LeavesOthers olds news (Some (place, served)) = (i : ℕ) → ¬ (i ≡ place) → slice_get news i ≡ slice_get olds i

-- whether a meter that there may be had a step
abbrev pub had_step : Option PassingMeter → Bool
had_step None = false
had_step (Some m) = m.stepped

-- what is known of meters that stand for slots is what is known of these, and they had a step where the journal has one
abbrev pub PassingIsKnown : Type 0
PassingIsKnown = (slot : SlotView) (m : PassingMeter) → IsPassing slot m → (known_by m ≡ known_now slot) × (m.stepped ≡ has_steps slot.journal)

-- ---- words of private contracts

-- what one step of a meter does: its slot's answer and what that leaves, whatever its journal is, and no reading is kept yet
pub record HasServed (old new : PassingMeter) (event : Event) (served : Served) : Type 0 where
  pub own_is : new.slot.own ≡ old.slot.own
  pub start_is : new.slot.start ≡ old.slot.start
  pub outcome_is : (journal : List Entry) → IsAfter journal old.slot
      → served.outcome ≡ outcome old.slot.start old.slot.own (reverse journal) event
  pub after : (journal : List Entry) (source line : ℕ) → IsAfter journal old.slot
      → IsAfter (journal ++ record { source = source; line = line; event = event; outcome = served.outcome } ∷ []) new.slot
  pub reading_is : (journal : List Entry) (source line : ℕ) → IsAfter journal old.slot
      → readings old.slot.start (journal ++ record { source = source; line = line; event = event; outcome = served.outcome } ∷ [])
      ≡ readings old.slot.start journal ++ option_to_list served.reading
  pub last_is : new.last ≡ old.last
  pub stepped_is : new.stepped ≡ true

-- the meter at a place made a step
pub record HasServedAt (olds news : List PassingMeter) (place : ℕ) (old : PassingMeter) (event : Event) (served : Served) : Type 0 where
  pub new : PassingMeter
  pub served_is : HasServed old new event served
  pub news_are : news ≡ slice_set olds place new

-- a meter's slot before any step
abbrev pub fresh_view : PassingMeter → SlotView
fresh_view m = record { own = m.slot.own; start = m.slot.start; journal = [] }

-- the directory has the addresses of the meters, which differ
abbrev pub AreOrdered : List PassingMeter → List Address → Type 0
AreOrdered meters directory = IsOrdered (map fresh_view meters) directory
