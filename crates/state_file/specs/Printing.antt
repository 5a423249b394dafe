-- Words of private contracts: the pieces of a state's text.
use Rattle.std.specs.Prelude.{ℕ, zero, suc, Bool, true, false, not, List, [], ◌∷◌, ◌++◌, codes, Option, Some, None, if◌then◌else◌}
use Rattle.std.specs.List.{flat_map, list_any}
use Rattle.std.specs.Fmt.{decimal}
use Rattle.hex.specs.Hex.{encode_lower}
use Rattle.afl_fragments.specs.Fragment.{Fragment}
use Rattle.afl_fragments.specs.Held.{Piece}
use Rattle.afl_fragments.specs.Places.{is_fresh}
use Rattle.afl_fragments.specs.declared.places.HeldPart.{HeldPart}
use Rattle.command_queue.specs.declared.command.Command.{Command}
use Rattle.command_queue.specs.declared.window.Window.{Window}
use Rattle.command_queue.specs.declared.window.Window.TheVariants.{Idle, Waiting}
use Rattle.meter_slots.specs.declared.reading.Reading.{Reading}
use Rattle.state_file.specs.Text.{line_with, bytes_text, reading_line, reading_lines, mark_line, command_fields, commands_lines}
use Rattle.state_file.specs.Written.{ended_text}

unfoldable pub reading_text : Reading → List ℕ
reading_text r = ended_text (reading_line r)

unfoldable pub readings_text : Option Reading → List ℕ
readings_text o = flat_map ended_text (reading_lines o)

-- a payload, and the end of its line
unfoldable pub payload_text : List ℕ → List ℕ
payload_text bytes = bytes_text bytes ++ codes "\n"

unfoldable pub part_text : Fragment → List ℕ
part_text part = ended_text (mark_line (Piece part))

-- the fragments that saw no tick, or those that saw one
abbrev pub is_kind : Bool → HeldPart → Bool
is_kind fresh h = if fresh then is_fresh h else not (is_fresh h)

abbrev pub text_where : Bool → HeldPart → List ℕ
text_where printed h = if printed then part_text h.part else []

abbrev pub kind_if : Bool → Option HeldPart → List ℕ
kind_if fresh None = []
kind_if fresh (Some h) = text_where (is_kind fresh h) h

abbrev pub some_kind : Bool → Option HeldPart → Bool
some_kind fresh None = false
some_kind fresh (Some h) = is_kind fresh h

-- those of one kind, the oldest first
abbrev pub kind_text : Bool → List HeldPart → List ℕ
kind_text fresh [] = []
kind_text fresh (h ∷ hs) = kind_text fresh hs ++ text_where (is_kind fresh h) h

abbrev pub has_kind : Bool → List HeldPart → Bool
has_kind fresh hs = list_any (is_kind fresh) hs

abbrev pub tick_text : Bool → List ℕ
tick_text old = if old then codes "tick\n" else []

unfoldable pub marks_text : List HeldPart → List ℕ
marks_text hs = kind_text false hs ++ tick_text (has_kind false hs) ++ kind_text true hs

-- how often it was sent and what it says, and the end of its line
unfoldable pub said_text : Command → List ℕ
said_text d = decimal d.tries ++ codes " " ++ encode_lower d.payload ++ codes "\n"

unfoldable pub command_text : List ℕ → Command → List ℕ
command_text word d = ended_text (line_with word (command_fields d))

abbrev pub command_if : List ℕ → Option Command → List ℕ
command_if word None = []
command_if word (Some d) = command_text word d

abbrev pub window_word : Window → List ℕ
window_word Idle = codes "command"
window_word (Waiting id) = codes "waits"

abbrev pub word_at : Window → ℕ → List ℕ
word_at window zero = window_word window
word_at window (suc place) = codes "command"

unfoldable pub commands_text : Window → List Command → List ℕ
commands_text window cs = flat_map ended_text (commands_lines window cs)
