-- A slot that goes on where another one ended.
use Rattle.std.specs.Prelude.{ℕ, ◌≡◌, ◌+◌, ◌≤◌, List, [], ◌∷◌, ◌++◌, reverse, Option, Some, None}
use Rattle.meter_address.specs.declared.address.Address.{Address}
use Rattle.afl_fragments.specs.Held.{held}
use Rattle.afl_fragments.specs.Short.{cut_down}
use Rattle.meter_slots.specs.declared.entry.Entry.{Entry}
use Rattle.meter_slots.specs.declared.reading.Reading.{Reading}
use Rattle.meter_slots.specs.Journal.{Start, SlotView, Standing, told, other_key, last_counter, orders, readings, Legal}

-- the last of some readings, or the one before them where there are none
abbrev pub last_of : Option Reading → List Reading → Option Reading
last_of before [] = before
last_of before (reading ∷ later) = last_of (Some reading) later

-- a later reading, or the one before it where there is none
abbrev pub later_of : Option Reading → Option Reading → Option Reading
later_of before None = before
later_of before (Some reading) = Some reading

-- the last reading that is known behind a journal
abbrev pub last_known : Start → List Entry → Option Reading
last_known c journal = last_of c.reading (readings c journal)

-- What is known of a meter behind a journal: the next slot begins with it. What was told of fragments is cut down to those that are held.
abbrev pub resumed : Start → List Entry → Start
resumed c journal = let earlier = reverse journal in record {
  address = c.address;
  mode = c.mode;
  key = c.key;
  other = other_key c earlier;
  last = last_counter c earlier;
  told = cut_down (told c earlier);
  orders = orders c earlier;
  reading = last_known c journal;
}

-- what is known of a slot's meter now
abbrev pub known_now : SlotView → Start
known_now b = resumed b.start b.journal

-- two standings that no event tells apart: what was told may differ, but not what is held
pub record IsSameStanding (s t : Standing) : Type 0 where
  pub other : s.other ≡ t.other
  pub last : s.last ≡ t.last
  pub held : held s.told ≡ held t.told
  pub orders : s.orders ≡ t.orders

-- ---- many sessions, one after the other

-- their journals, one behind the other
abbrev pub joined : List (List Entry) → List Entry
joined [] = []
joined (journal ∷ later) = journal ++ joined later

-- what is known of a meter behind the journals of some sessions
abbrev pub resumed_behind : Start → List (List Entry) → Start
resumed_behind c [] = c
resumed_behind c (journal ∷ later) = resumed_behind (resumed c journal) later

-- each of these journals is legal for what was known behind those before it
abbrev pub AreLegal : Start → Address → List (List Entry) → Type 0
AreLegal c own [] = Unit {0}
AreLegal c own (journal ∷ later) = Legal c own journal × AreLegal (resumed c journal) own later

-- the readings of all of them
abbrev pub readings_through : Start → List (List Entry) → List Reading
readings_through c [] = []
readings_through c (journal ∷ later) = readings c journal ++ readings_through (resumed c journal) later

-- ---- sessions whose downlink counters were reserved

-- what is known of a meter, with so many counters of downlinks passed over
abbrev pub reserved : ℕ → Start → Start
reserved most c = record c { orders = record c.orders { down = c.orders.down + most } }

-- a session: what was known when it began, and its journal
pub record Session : Type 0 where
  pub start : Start
  pub journal : List Entry

abbrev pub journals_of : List Session → List (List Entry)
journals_of [] = []
journals_of (s ∷ later) = s.journal ∷ journals_of later

-- legal sessions, one after the other, of which each begins with a downlink counter that isn't below the last one before it: it may be that
-- one, or one that was raised over it
abbrev pub AreReserved : ℕ → Address → List Session → Type 0
AreReserved down own [] = Unit {0}
AreReserved down own (s ∷ later) = (down ≤ s.start.orders.down)
    × (Legal s.start own s.journal × AreReserved (resumed s.start s.journal).orders.down own later)
