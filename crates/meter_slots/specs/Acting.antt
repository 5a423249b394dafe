-- A slot as a book.
use Rattle.std.specs.Prelude.{List, map}
use Rattle.meter_address.specs.declared.address.Address.{Address}
use Rattle.book_cells.specs.declared.act.Act.{Act}
use Rattle.book_cells.specs.Acts.{act}
use Rattle.meter_slots.specs.declared.entry.Entry.{Entry}
use Rattle.meter_slots.specs.declared.entry.Event.{Event}
use Rattle.meter_slots.specs.declared.entry.Outcome.{Outcome}
use Rattle.meter_slots.specs.Journal.{Start, SlotView, Legal}

-- what a slot is made with: the collector's own address and the meter's commission
pub record Opening : Type 0 where
  pub own : Address
  pub start : Start

abbrev pub opening_of : SlotView → Opening
opening_of b = record { own = b.own; start = b.start }

-- an entry of a journal as an act, and back
abbrev pub act_of : Entry → Act Event Outcome
act_of x = act x.source x.line x.event x.outcome

abbrev pub entry_of : Act Event Outcome → Entry
entry_of a = record { source = a.source; line = a.line; event = a.call; outcome = a.answer }

-- the acts are a legal journal of a slot that was made with this
abbrev pub IsLegalJournal : Opening → List (Act Event Outcome) → Type 0
IsLegalJournal o acts = Legal o.start o.own (map entry_of acts)
