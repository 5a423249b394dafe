-- A session that is cut in two: what each receiver heard before the cut, and what it heard behind it.
use Rattle.std.specs.Prelude.{ℕ, ◌≡◌, ◌+◌, List, [], ◌∷◌, ◌++◌, length, map}
use Rattle.meter_address.specs.declared.address.Address.{Address}
use Rattle.meter_slots.specs.declared.entry.Entry.{Entry}
use Rattle.meter_slots.specs.Journal.{Start, SlotView}
use Rattle.meter_slots.specs.Resuming.{resumed}
use Rattle.meter_slots.specs.World.{WorldView}
use Rattle.stranger_ring.specs.declared.strangers.Heard.{Heard}
use Rattle.receivers.specs.declared.told.Told.{Told}
use Rattle.receivers.specs.Session.{heard_by, IsSession}

-- each receiver heard these lines, and then those
abbrev pub AreHeardOn : (before after all : List (List Told)) → Type 0
AreHeardOn before after all = (w : ℕ) → heard_by w all ≡ heard_by w before ++ heard_by w after

-- what is known of the meters behind a session
abbrev pub starts_behind : List SlotView → List Start
starts_behind slots = map (λ b. resumed b.start b.journal) slots

-- an entry, whose line is numbered behind those that its receiver heard before the cut
abbrev pub numbered_on : List (List Told) → Entry → Entry
numbered_on before x = record x { line = length (heard_by x.source before) + x.line }

-- the same of a stranger's line
abbrev pub noted_on : List (List Told) → Heard → Heard
noted_on before h = record h { line = length (heard_by h.source before) + h.line }

-- a slot with the journal of the one that went on where it ended
abbrev pub slot_on : List (List Told) → SlotView → SlotView → SlotView
slot_on before b later = record { own = b.own; start = b.start; journal = b.journal ++ map (numbered_on before) later.journal }

abbrev pub slots_on : List (List Told) → List SlotView → List SlotView → List SlotView
slots_on before (b ∷ slots) (d ∷ later) = slot_on before b d ∷ slots_on before slots later
slots_on before _ _ = []

-- the slots and the strangers of both sessions
abbrev pub world_on : List (List Told) → WorldView → WorldView → WorldView
world_on before w later = record {
  slots = slots_on before w.slots later.slots;
  strangers = w.strangers ++ map (noted_on before) later.strangers;
}

-- for each cut of the receivers' lines: where the second session begins with what is known of the meters behind the first one, both are
-- one session of all lines
abbrev pub CutSessionsAreOne : Type 0
CutSessionsAreOne = (own : Address) (starts : List Start) (before after all : List (List Told)) (w later : WorldView)
    → AreHeardOn before after all → IsSession own starts before w → IsSession own (starts_behind w.slots) after later
    → IsSession own starts all (world_on before w later)
