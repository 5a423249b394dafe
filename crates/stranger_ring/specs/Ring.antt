-- The ring of strangers, and their lines as acts.
use Rattle.std.specs.Prelude.{◌-◌, List, [], length, drop, map, Option, Some, None}
use Rattle.circular_buffer.specs.Buffer.{Buffer}
use Rattle.meter_address.specs.declared.address.Address.{Address}
use Rattle.book_cells.specs.declared.act.Act.{Act}
use Rattle.book_cells.specs.Acts.{act}
use Rattle.stranger_ring.specs.declared.strangers.Heard.{Heard}

-- the last 256 lines, or all where there are fewer
abbrev pub last_heard : List Heard → List Heard
last_heard heard = drop (length heard - 256) heard

-- their addresses
unfoldable pub ring_of : List Heard → List Address
ring_of heard = map (λ h. h.address) (last_heard heard)

-- the addresses in a buffer, which isn't made before the first one comes
abbrev pub kept_in : Option (Buffer Address) → List Address
kept_in None = []
kept_in (Some buffer) = buffer.items

-- a stranger's line as an act
abbrev pub note_of : Heard → Act Address Unit
note_of h = act h.source h.line h.address tt
