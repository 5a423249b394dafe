-- The law of mode 7 over a session, whichever receivers hear a meter.
use Rattle.std.specs.Prelude.{ℕ, ◌≡◌, List, ◌∷◌, ◌++◌}
use Rattle.std.specs.List.{All}
use Rattle.meter_address.specs.declared.address.Address.{Address}
use Rattle.meter_address.specs.declared.commission.Mode.TheVariants.{Seven}
use Rattle.meter_slots.specs.declared.entry.Entry.{Entry}
use Rattle.meter_slots.specs.Journal.{Start, SlotView}
use Rattle.meter_slots.specs.MacLaw.{HearsBytes, TellsBytes, StoresByMac}
use Rattle.receivers.specs.declared.told.Told.{Told}
use Rattle.receivers.specs.declared.told.Told.TheVariants as told
use Rattle.receivers.specs.Told.{told_of}
use Rattle.receivers.specs.Session.{IsMetersSlot}

-- what a line tells is bytes
abbrev pub SaysBytes : Told → Type 0
SaysBytes (told.Event address event) = HearsBytes event
SaysBytes told.Unframed = Unit {0}
SaysBytes told.Bad = Unit {0}

abbrev pub AllSayBytes : List Told → Type 0
AllSayBytes heard = All SaysBytes heard

-- every line tells bytes
abbrev pub LinesSayBytes : Type 0
LinesSayBytes = (text : List ℕ) → SaysBytes (told_of text)

-- A meter of mode 7 stores by the MACs: a message is stored with a counter exactly where it is genuine by its MAC with that counter, which
-- exceeds the one stored last, or the one known before where none was.
abbrev pub StoresByMacs : Start → SlotView → Type 0
StoresByMacs c slot = c.mode ≡ Seven → (before : List Entry) (x : Entry) (after : List Entry) → slot.journal ≡ before ++ x ∷ after
    → StoresByMac c before x

abbrev pub MacsDecideOverAllReceivers : Type 0
MacsDecideOverAllReceivers = (own : Address) (c : Start) (all : List (List Told)) (slot : SlotView)
    → IsMetersSlot own all c slot → All TellsBytes c.told → All AllSayBytes all → StoresByMacs c slot
