-- Laws of what is printed of lines.
use Rattle.std.specs.Prelude.{ℕ, ◌≡◌, ◌↔◌, List, codes}
use Rattle.meter_address.specs.declared.address.Address.{Address}
use Rattle.meter_address.specs.Address.{text_of}
use Rattle.meter_slots.specs.declared.entry.Event.{Event}
use Rattle.receivers.specs.declared.told.Told.TheVariants as told
use Rattle.receivers.specs.Told.{told_of}
use Rattle.address_list.specs.Addresses.{address_text}

-- of a line that tells an event for a meter the meter's address
abbrev pub EventsAreNamed : Type 0
EventsAreNamed = (line : List ℕ) (a : Address) (e : Event) → told_of line ≡ told.Event a e → address_text line ≡ text_of a

-- a dash exactly of a line that tells no event
abbrev pub DashesAreNoEvents : Type 0
DashesAreNoEvents = (line : List ℕ) → (address_text line ≡ codes "-") ↔ ((a : Address) (e : Event) → told_of line ≡ told.Event a e → ⊥)
