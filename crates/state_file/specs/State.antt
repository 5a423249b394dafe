-- The grammar of the lines below a meter's line, with the first fault.
use Rattle.std.specs.Prelude.{ℕ, ◌==◌, ◌-◌, ◌^◌, ◌&&◌, nat_le, Bool, true, false, List, [], ◌∷◌, length, drop, slice_index, codes, Option, Some, None, Result, Ok, Err, if◌then◌else◌}
use Rattle.std.specs.Option.{ok_or}
use Rattle.std.specs.Result.{result_ok}
use Rattle.hex.specs.Hex.{decode_of}
use Rattle.lists.specs.Steps.{◌>>=◌}
use Rattle.plain_text.specs.Numbers.{number_of}
use Rattle.plain_text.specs.Parts.{fields_of, is_word}
use Rattle.afl_layer.specs.declared.header.Afl.{Afl}
use Rattle.afl_layer.specs.declared.header.AflFault.{AflFault}
use Rattle.afl_layer.specs.Fields.{is_fragment}
use Rattle.afl_layer.specs.Header.{afl_at}
use Rattle.afl_fragments.specs.Fragment.{Fragment}
use Rattle.afl_fragments.specs.Held.{Piece, Tick}
use Rattle.afl_fragments.specs.Short.{cut_down}
use Rattle.command_queue.specs.declared.command.Command.{Command}
use Rattle.meter_slots.specs.declared.reading.Reading.{Reading}
use Rattle.meter_slots.specs.Journal.{Start}
use Rattle.meter_slots.specs.Restoring.{may_restore, restored}
use Rattle.state_file.specs.declared.cause.StateCause.{StateCause}
use Rattle.state_file.specs.declared.cause.StateCause.TheVariants as causes

-- ---- a reading

-- a dash for no bytes, or hexadecimal digits of either case
abbrev pub bytes_in : List ℕ → Option (List ℕ)
bytes_in text = if is_word text (codes "-") then Some [] else result_ok (decode_of text)

-- at most 4,096 bytes
abbrev pub payload_in : List ℕ → Option (List ℕ) → Option (List ℕ)
payload_in text None = None
payload_in text (Some bytes) = if nat_le (length bytes) 4096 then Some bytes else None

unfoldable pub reading_of : List (List ℕ) → Result Reading StateCause
reading_of (a ∷ n ∷ p ∷ []) = do
  at ← ok_or (number_of (2 ^ 64 - 1) a) causes.At
  counter ← ok_or (number_of (2 ^ 32 - 1) n) causes.Counter
  payload ← ok_or (payload_in p (bytes_in p)) causes.Payload
  Ok (record { at = at; counter = counter; payload = payload })
reading_of fields = Err causes.Fields

-- the first reading of a meter
abbrev pub with_reading_in : Start → Option Reading → List (List ℕ) → Result Start StateCause
with_reading_in c None fields = reading_of fields >>= λ r. Ok (record c { reading = Some r })
with_reading_in c (Some before) fields = Err causes.Twice

-- ---- what is held of fragments

-- a fragment with this header, whose piece follows it
abbrev pub fragment_with : List ℕ → Result Afl AflFault → Option Fragment
fragment_with bytes (Err fault) = None
fragment_with bytes (Ok a) =
    if is_fragment a && nat_le a.fid 16 && nat_le (length (drop a.len bytes)) 242 then Some (record { afl = a; bytes = drop a.len bytes }) else None

-- the fragment of some bytes, from the CI of its header on
unfoldable pub fragment_of : List ℕ → Option Fragment
fragment_of bytes = if slice_index bytes 0 == 0x90 then fragment_with bytes (afl_at bytes) else None

abbrev pub fragment_in : Option (List ℕ) → Option Fragment
fragment_in None = None
fragment_in (Some bytes) = fragment_of bytes

unfoldable pub part_of : List (List ℕ) → Result Fragment StateCause
part_of (text ∷ []) = ok_or (fragment_in (result_ok (decode_of text))) causes.Part
part_of fields = Err causes.Fields

-- one more fragment, and a tick that came after those above it
abbrev pub with_part : Start → Fragment → Start
with_part c part = record c { told = cut_down (Piece part ∷ c.told) }

abbrev pub with_part_in : Start → List (List ℕ) → Result Start StateCause
with_part_in c fields = part_of fields >>= λ part. Ok (with_part c part)

abbrev pub with_tick : Start → List (List ℕ) → Result Start StateCause
with_tick c [] = Ok (record c { told = cut_down (Tick ∷ c.told) })
with_tick c fields = Err causes.Fields

-- ---- commands

-- 1 to 94 bytes
abbrev pub command_bytes : Option (List ℕ) → Option (List ℕ)
command_bytes None = None
command_bytes (Some bytes) = if nat_le 1 (length bytes) && nat_le (length bytes) 94 then Some bytes else None

unfoldable pub command_of : List (List ℕ) → Result Command StateCause
command_of (i ∷ t ∷ p ∷ []) = do
  id ← ok_or (number_of (2 ^ 32 - 1) i) causes.Id
  tries ← ok_or (number_of 3 t) causes.Tries
  payload ← ok_or (command_bytes (result_ok (decode_of p))) causes.Payload
  Ok (record { id = id; tries = tries; payload = payload })
command_of fields = Err causes.Fields

-- one more command, for which the window waits or not
abbrev pub with_command : Start → Bool → Command → Result Start StateCause
with_command c waits command =
    if may_restore c.orders command waits then Ok (record c { orders = restored c.orders command waits }) else Err causes.Command

abbrev pub with_command_in : Start → Bool → List (List ℕ) → Result Start StateCause
with_command_in c waits fields = command_of fields >>= with_command c waits

-- ---- lines

-- what is known of a meter, and what the fields of one more line say
abbrev pub with_fields : Start → List (List ℕ) → Result Start StateCause
with_fields c [] = Err causes.Kind
with_fields c (kind ∷ fields) =
    if is_word kind (codes "reading") then with_reading_in c c.reading fields
    else if is_word kind (codes "part") then with_part_in c fields
    else if is_word kind (codes "tick") then with_tick c fields
    else if is_word kind (codes "waits") then with_command_in c true fields
    else if is_word kind (codes "command") then with_command_in c false fields
    else Err causes.Kind

abbrev pub with_line : Start → List ℕ → Result Start StateCause
with_line c line = with_fields c (fields_of line)

-- the same of several lines, one after another
unfoldable pub with_lines : Start → List (List ℕ) → Result Start StateCause
with_lines c [] = Ok c
with_lines c (line ∷ later) = with_line c line >>= λ d. with_lines d later
