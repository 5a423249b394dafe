-- The slot of a meter that keeps no journal: what contracts see of it, and what it is after a journal.
use Rattle.std.specs.Prelude.{List, Option}
use Rattle.meter_address.specs.declared.address.Address.{Address}
use Rattle.afl_fragments.specs.Short.{told_of}
use Rattle.meter_slots.specs.declared.entry.Entry.{Entry}
use Rattle.meter_slots.specs.declared.reading.Reading.{Reading}
use Rattle.meter_slots.specs.Journal.{Start, readings}
use Rattle.meter_slots.specs.Keeping.{Kept, Keeps}
use Rattle.meter_slots.specs.Resuming.{later_of}

-- the collector's own address, what the slot began with, and what it keeps
pub record Passing : Type 0 where
  pub own : Address
  pub start : Start
  pub kept : Kept

-- the slot is as this journal leaves it
abbrev pub IsAfter : List Entry → Passing → Type 0
IsAfter journal s = Keeps s.start s.own journal s.kept (readings s.start journal)

-- what is known of its meter now, by what it keeps and the last reading that its steps stored
abbrev pub known_with : Passing → Option Reading → Start
known_with s last = record {
  address = s.start.address;
  mode = s.start.mode;
  key = s.start.key;
  other = s.kept.commission.other;
  last = s.kept.last;
  told = told_of s.kept.parts;
  orders = s.kept.orders;
  reading = later_of s.start.reading last;
}

-- ---- words of private contracts

-- what a slot keeps is what some journal comes to
pub record StandsAfterSome (c : Start) (own : Address) (k : Kept) : Type 0 where
  pub journal : List Entry
  pub keeps : Keeps c own journal k (readings c journal)
