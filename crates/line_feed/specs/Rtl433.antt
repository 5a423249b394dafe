-- Lines of rtl_433: JSON (RFC 8259).
use Rattle.std.specs.Prelude.{ℕ, ◌+◌, ◌-◌, ℤ, pos, negsuc, Float, Bool, false, List, ◌∷◌, length, take, drop, slice_index}
use Rattle.std.specs.Prelude.{codes, Option, Some, None, option_and_then, Result, Ok, Err, if◌then◌else◌}
use Rattle.std.specs.Float.{float_to_signed}
use Rattle.std.specs.Int.{w64}
use Rattle.std.specs.Option.{ok_or}
use Rattle.std.specs.Str.{is_utf8}
use Rattle.lists.specs.Steps.{◌>>=◌}
use Rattle.plain_text.specs.Parts.{is_word}
use Rattle.frame_formats.specs.Decoding.{frame_a}
use Rattle.serde_json.specs.Data.{Data, Num}
use Rattle.serde_json.specs.Find.{get, as_str, as_number, as_u64, to_float}
use Rattle.serde_json.specs.Read.{read}
use Rattle.line_feed.specs.declared.heard.Reception.{Reception}
use Rattle.line_feed.specs.declared.moments.Moment.{Moment}
use Rattle.line_feed.specs.declared.reasons.NotTaken.{NotTaken}
use Rattle.line_feed.specs.declared.reasons.NotTaken.TheVariants as reasons
use Rattle.line_feed.specs.Digits.{bytes_in, is_telegram, telegram_of}
use Rattle.line_feed.specs.Moments.{since_1970, moment_in}

-- the text of the member with this name, if it is one
abbrev pub member_text : List ℕ → Data → Option (List ℕ)
member_text name d = option_and_then as_str (get name d)

abbrev pub is_text : List ℕ → Option (List ℕ) → Bool
is_text text None = false
is_text text (Some found) = is_word found text

-- the member with this name is this text
abbrev pub has_text : (name text : List ℕ) → Data → Bool
has_text name text d = is_text text (member_text name d)

abbrev pub not_below : ℤ → Option ℕ
not_below (pos n) = Some n
not_below (negsuc n) = None

abbrev pub or_nearest : Option ℕ → Float → Option ℕ
or_nearest (Some n) x = Some n
or_nearest None x = not_below (float_to_signed w64 x)

-- the whole seconds of a number: those of one with a fraction are the whole part of the nearest number of 64 bits (IEEE 754, binary64)
abbrev pub whole_seconds : Num → Option ℕ
whole_seconds n = or_nearest (as_u64 n) (to_float n)

-- the moment of a text, or of a number of seconds
abbrev pub moment_of_value : Option (List ℕ) → Option Num → Result Moment NotTaken
moment_of_value (Some text) number = moment_in text
moment_of_value None number = since_1970 (option_and_then whole_seconds number)

-- the moment of the member `time`, where there is one
abbrev pub moment_of_member : Option Data → Result (Option Moment) NotTaken
moment_of_member None = Ok None
moment_of_member (Some d) = moment_of_value (as_str d) (as_number d) >>= λ moment. Ok (Some moment)

abbrev pub time_in : Data → Result (Option Moment) NotTaken
time_in d = moment_of_member (get (codes "time") d)

abbrev pub data_in : Data → Result (List ℕ) NotTaken
data_in d = ok_or (member_text (codes "data") d) reasons.Data

abbrev pub passes : Bool → NotTaken → Result (Unit {0}) NotTaken
passes passed reason = if passed then Ok tt else Err reason

-- of a telegram of format A rtl_433 prints an L that is two too low, and the CRC of the last block behind the telegram
abbrev pub restored : List ℕ → List ℕ
restored bytes = (slice_index bytes 0 + 2) ∷ take (length bytes - 3) (drop 1 bytes)

abbrev pub last_crc : List ℕ → List ℕ
last_crc t = drop (length (frame_a t) - 2) (frame_a t)

abbrev pub with_last_crc : List ℕ → List ℕ → Result (List ℕ) NotTaken
with_last_crc bytes t = if is_word (drop (length bytes - 2) bytes) (last_crc t) then Ok t else Err reasons.Length

-- the telegram of bytes as they are, or else as rtl_433 prints one of format A
abbrev pub telegram_in_data : List ℕ → Result (List ℕ) NotTaken
telegram_in_data bytes = if is_telegram bytes then Ok bytes else telegram_of (restored bytes) >>= with_last_crc bytes

abbrev pub data_telegram : List ℕ → Result (List ℕ) NotTaken
data_telegram digits = bytes_in digits >>= telegram_in_data

-- a telegram of wireless M-Bus whose CRCs were right
unfoldable pub json_heard : Data → Result Reception NotTaken
json_heard d = do
  known ← passes (has_text (codes "model") (codes "Wireless-MBus") d) reasons.Model
  passed ← passes (has_text (codes "mic") (codes "CRC") d) reasons.Unchecked
  moment ← time_in d
  digits ← data_in d
  telegram ← data_telegram digits
  Ok (record { telegram = telegram; moment = moment })

abbrev pub read_heard : Option Data → Result Reception NotTaken
read_heard None = Err reasons.Json
read_heard (Some d) = json_heard d

abbrev pub rtl_433_heard : List ℕ → Result Reception NotTaken
rtl_433_heard line = if is_utf8 line then read_heard (read line) else Err reasons.Json
