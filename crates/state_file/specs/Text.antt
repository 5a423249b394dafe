-- The lines of a meter in a state.
use Rattle.std.specs.Prelude.{ℕ, ◌≡◌, ◌≤◌, ◌<◌, ◌^◌, List, [], ◌∷◌, ◌++◌, length, map, reverse, codes, Option, Some, None, IfSome, Ok}
use Rattle.std.specs.List.{join_with_byte}
use Rattle.std.specs.Fmt.{decimal}
use Rattle.hex.specs.Hex.{encode_lower, IsBytes}
use Rattle.lists.specs.Each.{Each}
use Rattle.afl_layer.specs.Fields.{fcl_of}
use Rattle.afl_layer.specs.Header.{afl_bytes, Fits}
use Rattle.afl_fragments.specs.Fragment.{Fragment, IsFragment}
use Rattle.afl_fragments.specs.Held.{Told, Piece, Tick, Clear}
use Rattle.afl_fragments.specs.Short.{cut_down}
use Rattle.command_queue.specs.declared.command.Command.{Command}
use Rattle.command_queue.specs.Pending.{IsSound}
use Rattle.command_queue.specs.declared.window.Window.{Window}
use Rattle.command_queue.specs.declared.window.Window.TheVariants.{Idle, Waiting}
use Rattle.command_queue.specs.Orders.{Agrees}
use Rattle.command_queue.specs.Moves.{fresh_orders}
use Rattle.meter_slots.specs.declared.reading.Reading.{Reading}
use Rattle.meter_slots.specs.Journal.{Start}
use Rattle.state_file.specs.State.{with_lines}

-- ---- lines

-- a word and fields behind it, with one space between two of them
abbrev pub line_with : List ℕ → List (List ℕ) → List ℕ
line_with word fields = join_with_byte 32 (word ∷ fields)

abbrev pub bytes_text : List ℕ → List ℕ
bytes_text [] = codes "-"
bytes_text (b ∷ bytes) = encode_lower (b ∷ bytes)

abbrev pub reading_line : Reading → List ℕ
reading_line r = line_with (codes "reading") (decimal r.at ∷ decimal r.counter ∷ bytes_text r.payload ∷ [])

abbrev pub reading_lines : Option Reading → List (List ℕ)
reading_lines None = []
reading_lines (Some r) = reading_line r ∷ []

-- a fragment as it is sent: its header, and the piece behind it
abbrev pub spelt : Fragment → List ℕ
spelt part = afl_bytes (fcl_of part.afl) part.afl ++ part.bytes

abbrev pub mark_line : Told → List ℕ
mark_line (Piece part) = line_with (codes "part") (encode_lower (spelt part) ∷ [])
mark_line Tick = codes "tick"
mark_line Clear = codes "clear"

abbrev pub command_fields : Command → List (List ℕ)
command_fields c = decimal c.id ∷ decimal c.tries ∷ encode_lower c.payload ∷ []

-- the oldest command has another word, where the window waits for it
abbrev pub commands_lines : Window → List Command → List (List ℕ)
commands_lines window [] = []
commands_lines Idle (c ∷ cs) = line_with (codes "command") (command_fields c) ∷ map (λ d. line_with (codes "command") (command_fields d)) cs
commands_lines (Waiting id) (c ∷ cs) =
    line_with (codes "waits") (command_fields c) ∷ map (λ d. line_with (codes "command") (command_fields d)) cs

-- the lines below a meter's line
abbrev pub start_lines : Start → List (List ℕ)
start_lines c = reading_lines c.reading ++ map mark_line (reverse c.told) ++ commands_lines c.orders.window c.orders.queue.commands

-- what the meter's line says by itself
abbrev pub bare : Start → Start
bare c = record c { told = []; orders = fresh_orders c.orders.queue.ids c.orders.down; reading = None }

-- ---- what holds of what is read

pub record IsSpeltReading (r : Reading) : Type 0 where
  pub at : r.at < 2 ^ 64
  pub counter : r.counter < 2 ^ 32
  pub bytes : IsBytes r.payload
  pub most : length r.payload ≤ 4096

-- a fragment that is held: its header is one that is sent, its fields have their sizes, and the piece is at most 242 bytes
pub record IsSpeltPart (part : Fragment) : Type 0 where
  pub fragment : IsFragment part.afl
  pub few : part.afl.fid ≤ 16
  pub fits : Fits part.afl
  pub most : length part.bytes ≤ 242
  pub bytes : IsBytes (spelt part)

abbrev pub IsSpeltMark : Told → Type 0
IsSpeltMark (Piece part) = IsSpeltPart part
IsSpeltMark Tick = Unit {0}
IsSpeltMark Clear = ⊥

pub record IsSpeltCommand (c : Command) : Type 0 where
  pub id : c.id < 2 ^ 32
  pub tries : c.tries ≤ 3
  pub least : 1 ≤ length c.payload
  pub most : length c.payload ≤ 94
  pub bytes : IsBytes c.payload

-- what is known of a meter, as a state tells it
pub record IsTold (c : Start) : Type 0 where
  pub reading : IfSome c.reading IsSpeltReading
  pub marks : Each IsSpeltMark c.told
  pub short : cut_down c.told ≡ c.told
  pub commands : Each IsSpeltCommand c.orders.queue.commands
  pub sound : IsSound c.orders.queue
  pub agrees : Agrees c.orders.window c.orders.queue

-- it is read back from its lines
abbrev pub LinesAreReadBack : Type 0
LinesAreReadBack = (c : Start) → IsTold c → with_lines (bare c) (start_lines c) ≡ Ok c
