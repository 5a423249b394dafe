-- Telegrams from hexadecimal digits.
use Rattle.std.specs.Prelude.{ℕ, ◌+◌, ◌&&◌, nat_le, nat_lt, nat_eq, Bool, List, length, slice_index, Result, Ok, Err, if◌then◌else◌}
use Rattle.std.specs.Option.{ok_or}
use Rattle.lists.specs.Steps.{◌>>=◌}
use Rattle.line_reader.specs.Grammar.{bytes_of}
use Rattle.line_feed.specs.declared.reasons.NotTaken.{NotTaken}
use Rattle.line_feed.specs.declared.reasons.NotTaken.TheVariants as reasons

-- an even number of hexadecimal digits of either case, at most 1,024
abbrev pub bytes_in : List ℕ → Result (List ℕ) NotTaken
bytes_in digits = if nat_lt 1024 (length digits) then Err reasons.Hex else ok_or (bytes_of digits) reasons.Hex

-- at least 11 bytes, of which the first counts those behind it
abbrev pub is_telegram : List ℕ → Bool
is_telegram bytes = nat_le 11 (length bytes) && nat_le (length bytes) 256 && nat_eq (slice_index bytes 0 + 1) (length bytes)

abbrev pub telegram_of : List ℕ → Result (List ℕ) NotTaken
telegram_of bytes = if is_telegram bytes then Ok bytes else Err reasons.Length

-- a telegram in digits
abbrev pub telegram_in : List ℕ → Result (List ℕ) NotTaken
telegram_in digits = bytes_in digits >>= telegram_of
