-- A session of several receivers: what each of them heard, and what the slots and the strangers' lines came to.
use Rattle.std.specs.Prelude.{ℕ, ◌≡◌, ◌==◌, ◌+◌, List, [], ◌∷◌, map, filter, if◌then◌else◌, Option, Some, None}
use Rattle.std.specs.List.{filter_map, enumerate_from}
use Rattle.lists.specs.Each.{EachWith}
use Rattle.meter_address.specs.declared.address.Address.{Address}
use Rattle.meter_slots.specs.declared.entry.Entry.{Entry}
use Rattle.meter_slots.specs.declared.entry.Event.{Event}
use Rattle.meter_slots.specs.Journal.{Start, SlotView, Legal}
use Rattle.meter_slots.specs.World.{WorldView, is_commissioned}
use Rattle.stranger_ring.specs.declared.strangers.Heard.{Heard}
use Rattle.receivers.specs.declared.told.Told.{Told}
use Rattle.receivers.specs.declared.told.Told.TheVariants as told

-- ---- lines

-- what the receiver with this number heard, where the first one of these has the number n; nothing where no receiver has it
abbrev pub heard_from : ℕ → ℕ → List (List Told) → List Told
heard_from n w [] = []
heard_from n w (heard ∷ later) = if n == w then heard else heard_from (n + 1) w later

-- receivers are numbered from 1
abbrev pub heard_by : ℕ → List (List Told) → List Told
heard_by w all = heard_from 1 w all

-- a line that is a meter's own: its number, and what comes
abbrev pub event_at : Address → ℕ → Told → Option (ℕ × Event)
event_at a line (told.Event address event) = if a.0 == address.0 then Some (line, event) else None
event_at a line told.Unframed = None
event_at a line told.Bad = None

-- a meter's own lines among those of a receiver, which are numbered from 1
abbrev pub lines_for : Address → List Told → List (ℕ × Event)
lines_for a heard = filter_map (λ l. event_at a l.0 l.1) (enumerate_from 1 heard)

-- a stranger's line: its number, and the address
abbrev pub stranger_at : List Start → ℕ → Told → Option (ℕ × Address)
stranger_at commissions line (told.Event address event) = if is_commissioned commissions address then None else Some (line, address)
stranger_at commissions line told.Unframed = None
stranger_at commissions line told.Bad = None

-- the strangers' lines among those of a receiver
abbrev pub lines_of_strangers : List Start → List Told → List (ℕ × Address)
lines_of_strangers commissions heard = filter_map (λ l. stranger_at commissions l.0 l.1) (enumerate_from 1 heard)

-- ---- journals

-- a receiver's part of a journal
abbrev pub entries_by : ℕ → List Entry → List Entry
entries_by w journal = filter (λ x. x.source == w) journal

-- the same without the answers: the number of each line, and what came
abbrev pub steps_by : ℕ → List Entry → List (ℕ × Event)
steps_by w journal = map (λ x. (x.line, x.event)) (entries_by w journal)

-- a receiver's part of the strangers' lines
abbrev pub notes_by : ℕ → List Heard → List (ℕ × Address)
notes_by w heard = map (λ h. (h.line, h.address)) (filter (λ h. h.source == w) heard)

-- ---- the session

-- A meter's slot after a session: it has the meter's commission, each answer in its journal is the one that the entries before it give,
-- and of each receiver the journal has just the meter's own lines, each once and in that receiver's order.
pub record IsMetersSlot (own : Address) (all : List (List Told)) (c : Start) (slot : SlotView) : Type 0 where
  pub own_is : slot.own ≡ own
  pub commission_is : slot.start ≡ c
  pub legal : Legal c own slot.journal
  pub lines : (w : ℕ) → steps_by w slot.journal ≡ lines_for c.address (heard_by w all)

-- A session of receivers that heard all this, for the meters of some commissions: each meter has its slot, and the strangers' list has
-- of each receiver just its strangers' lines, each once and in that receiver's order.
pub record IsSession (own : Address) (commissions : List Start) (all : List (List Told)) (world : WorldView) : Type 0 where
  pub meters : EachWith (IsMetersSlot own all) commissions world.slots
  pub strangers : (w : ℕ) → notes_by w world.strangers ≡ lines_of_strangers commissions (heard_by w all)
