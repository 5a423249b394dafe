-- What a session of several receivers came to.
use Rattle.std.specs.Prelude.{◌≡◌, ℕ, ◌+◌, ◌<◌, ◌==◌, List, [], ◌∷◌, map, filter, length, slice_index_or, if◌then◌else◌}
use Rattle.std.specs.List.{enumerate_from}
use Rattle.meter_address.specs.declared.address.Address.{Address}
use Rattle.meter_slots.specs.declared.entry.Entry.{Entry}
use Rattle.meter_slots.specs.declared.entry.Event.{Event}
use Rattle.meter_slots.specs.declared.entry.Outcome.{Outcome}
use Rattle.meter_slots.specs.Journal.{Start, SlotView}
use Rattle.meter_slots.specs.World.{WorldView}
use Rattle.book_cells.specs.Acts.{Shown, CellShown, IsFirstPass}
use Rattle.meter_slots.specs.Acting.{Opening, opening_of}
use Rattle.receivers.specs.Classes.{own_lines}
use Rattle.receivers.specs.declared.told.Told.{Told}
use Rattle.lists.specs.Each.{EachWith}
use Rattle.receivers.specs.Passes.{Answered, ArePassesOf}
use Rattle.receivers.specs.Run.{ReceiverRun}
use Rattle.receivers.specs.Session.{entries_by, heard_by, IsSession}
use Rattle.receivers.specs.Works.{Part, HasRun}

-- ---- the answers to each receiver's own lines

abbrev pub entry_by : ℕ → Answered → Entry
entry_by w d = record { source = w; line = d.own.line; event = d.own.event; outcome = d.outcome }

-- what was answered at a place, as the entries of a journal
abbrev pub entries_at : ℕ → ℕ → List Answered → List Entry
entries_at w place did = map (entry_by w) (filter (λ d. d.own.place == place) did)

-- what the receiver with this number was answered, where the first one of these has the number n; nothing where no receiver has it
abbrev pub did_from : ℕ → ℕ → List Part → List Answered
did_from n w [] = []
did_from n w (p ∷ ps) = if n == w then p.did else did_from (n + 1) w ps

abbrev pub heard_in : Part → List Told
heard_in p = p.heard

-- the part of the receiver with this number; receivers are numbered from 1
abbrev pub part_by : ℕ → List Part → Part
part_by w parts = record { heard = heard_by w (map heard_in parts); did = did_from 1 w parts }

-- Each own line that a receiver heard was answered, in their order, whatever the meters; the answers of each meter are those in its
-- slot's journal.
pub record IsAnswered (directory : List Address) (slots : List SlotView) (w : ℕ) (p : Part) : Type 0 where
  pub asked : map (λ d. d.own) p.did ≡ own_lines directory (enumerate_from 1 p.heard)
  pub answered : (k : ℕ) (slot : SlotView) → k < length slots
      → entries_by w (slice_index_or slots k slot).journal ≡ entries_at w k p.did

-- ---- the session

abbrev pub address_of : Start → Address
address_of c = c.address

-- The runs of some receivers, numbered from 1, for the meters of these commissions: each ended with its cause, and sent the downlinks of
-- what its own lines were answered; what they heard is one session, of these slots and strangers, whose journals have those answers.
pub record IsCollected (own : Address) (commissions : List Start) (runs : List ReceiverRun) (world : WorldView) : Type 0 where
  pub parts : List Part
  pub each_run : EachWith (HasRun (map address_of commissions)) runs parts
  pub session : IsSession own commissions (map heard_in parts) world
  pub answers : (w : ℕ) → IsAnswered (map address_of commissions) world.slots w (part_by w parts)

-- ---- words of private contracts

abbrev pub opening : Address → Start → Opening
opening own c = record { own = own; start = c }

-- a cell for each commission, with its pass
pub record AreFresh (own : Address) (commissions : List Start) (cells : List (CellShown SlotView))
    (roots : List (Shown SlotView Event Outcome)) : Type 0 where
  pub openings : map (λ c. opening_of c.opening) cells ≡ map (opening own) commissions
  pub each_cell : ArePassesOf cells roots
  pub fresh : (k : ℕ) (d : Shown SlotView Event Outcome) → k < length roots → IsFirstPass 0 (slice_index_or roots k d)
