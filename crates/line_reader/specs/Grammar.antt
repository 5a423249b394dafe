-- What one line says, or its first fault.
use Rattle.std.specs.Prelude.{ℕ, ◌-◌, ◌^◌, ◌≤◌, ◌&&◌, nat_le, nat_lt, List, [], ◌∷◌, length, codes, Option, Result, Ok, Err, if◌then◌else◌}
use Rattle.std.specs.Option.{ok_or}
use Rattle.std.specs.Result.{result_ok}
use Rattle.hex.specs.Hex.{decode_of}
use Rattle.frame_formats.specs.declared.format.Format.{Format}
use Rattle.frame_formats.specs.declared.format.Format.TheVariants as formats
use Rattle.lists.specs.Steps.{◌>>=◌}
use Rattle.plain_text.specs.Numbers.{number_of}
use Rattle.plain_text.specs.Parts.{fields_of, is_word}
use Rattle.meter_address.specs.Address.{address_of}
use Rattle.meter_address.specs.Commission.{key_of}
use Rattle.line_reader.specs.declared.line.Line.{Line}
use Rattle.line_reader.specs.declared.line.Line.TheVariants.{Frame, Tick, Put, Cancel, Key}
use Rattle.line_reader.specs.declared.line.BadLine.{BadLine}
use Rattle.line_reader.specs.declared.line.BadLine.TheVariants as bads

-- an even number of hexadecimal digits of either case
abbrev pub bytes_of : List ℕ → Option (List ℕ)
bytes_of digits = result_ok (decode_of digits)

-- a frame at a moment below 2^64
unfoldable pub frame_line : Format → List (List ℕ) → Result Line BadLine
frame_line format (moment ∷ digits ∷ []) = do
  at ← ok_or (number_of (2 ^ 64 - 1) moment) bads.Number
  bytes ← ok_or (bytes_of digits) bads.Hex
  Ok (Frame format at bytes)
frame_line format fields = Err bads.Fields

-- a tick for a meter
unfoldable pub tick_line : List (List ℕ) → Result Line BadLine
tick_line (text ∷ []) = ok_or (address_of text) bads.Address >>= λ address. Ok (Tick address)
tick_line fields = Err bads.Fields

-- a payload has 1 to 94 bytes
abbrev pub payload_of : List ℕ → Result (List ℕ) BadLine
payload_of bytes = if nat_le 1 (length bytes) && nat_le (length bytes) 94 then Ok bytes else Err (bads.Payload (length bytes))

-- a command for a meter
unfoldable pub put_line : List (List ℕ) → Result Line BadLine
put_line (text ∷ digits ∷ []) = do
  address ← ok_or (address_of text) bads.Address
  bytes ← ok_or (bytes_of digits) bads.Hex
  payload ← payload_of bytes
  Ok (Put address payload)
put_line fields = Err bads.Fields

-- a command's id below 2^32, to be cancelled
unfoldable pub cancel_line : List (List ℕ) → Result Line BadLine
cancel_line (text ∷ number ∷ []) = do
  id ← ok_or (number_of (2 ^ 32 - 1) number) bads.Number
  address ← ok_or (address_of text) bads.Address
  Ok (Cancel address id)
cancel_line fields = Err bads.Fields

-- a second key for a meter
unfoldable pub key_line : List (List ℕ) → Result Line BadLine
key_line (text ∷ digits ∷ []) = do
  address ← ok_or (address_of text) bads.Address
  key ← ok_or (key_of digits) bads.Key
  Ok (Key address key)
key_line fields = Err bads.Fields

-- the first field is one of six words
unfoldable pub by_word : List (List ℕ) → Result Line BadLine
by_word [] = Err bads.Word
by_word (word ∷ fields) =
    if is_word word (codes "A") then frame_line formats.A fields
    else if is_word word (codes "B") then frame_line formats.B fields
    else if is_word word (codes "T") then tick_line fields
    else if is_word word (codes "Q") then put_line fields
    else if is_word word (codes "X") then cancel_line fields
    else if is_word word (codes "K") then key_line fields
    else Err bads.Word

-- what a line says, or its first fault
unfoldable pub line_of : List ℕ → Result Line BadLine
line_of text = if nat_lt 1024 (length text) then Err bads.TooLong else by_word (fields_of text)

-- no field is longer than a line
abbrev pub IsLineText : List ℕ → Type 0
IsLineText text = length text ≤ 1024
