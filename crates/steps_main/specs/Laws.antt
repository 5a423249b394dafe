-- A meter's part of what is told.
use Rattle.std.specs.Prelude.{◌≡◌, ◌==◌, if◌then◌else◌, List, [], ◌∷◌}
use Rattle.meter_address.specs.declared.address.Address.{Address}
use Rattle.meter_slots.specs.declared.entry.Event.{Event}
use Rattle.meter_slots.specs.Journal.{Start}
use Rattle.receivers.specs.declared.told.Told.{Told}
use Rattle.receivers.specs.declared.told.Told.TheVariants as told
use Rattle.steps_main.specs.Steps.{slot_behind, served_by, block_told}

-- a meter's own events among what lines told, without the numbers of these lines
abbrev pub events_for : Address → List Told → List Event
events_for a [] = []
events_for a (told.Event address event ∷ heard) = if address.0 == a.0 then event ∷ events_for a heard else events_for a heard
events_for a (told.Unframed ∷ heard) = events_for a heard
events_for a (told.Bad ∷ heard) = events_for a heard

-- what is told of a meter is the same behind any lines that have the same events for it: what it answers to the next one, and its block
pub record IsToldAlike (own : Address) (c : Start) (before others : List Told) : Type 0 where
  pub served : (e : Event) → served_by (slot_behind own before c) e ≡ served_by (slot_behind own others c) e
  pub block : block_told (slot_behind own before c) ≡ block_told (slot_behind own others c)

abbrev pub OwnLinesAlone : Type 0
OwnLinesAlone = (own : Address) (c : Start) (before others : List Told) → events_for c.address before ≡ events_for c.address others
    → IsToldAlike own c before others
