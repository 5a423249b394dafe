-- What is noted, in words.
use Rattle.std.specs.Prelude.{ℕ, List, ◌++◌, codes}
use Rattle.std.specs.Fmt.{decimal}
use Rattle.frame_formats.specs.declared.fault.FrameFault.{FrameFault}
use Rattle.frame_formats.specs.declared.fault.FrameFault.TheVariants as faults
use Rattle.line_feed.specs.declared.reasons.NotTaken.{NotTaken}
use Rattle.line_feed.specs.declared.reasons.NotTaken.TheVariants as reasons

-- why bytes are no frame
abbrev pub frame_words : FrameFault → List ℕ
frame_words faults.Empty = codes "the frame has no bytes"
frame_words (faults.Short l) = codes "the first byte of the frame, L, is below the least of its format"
frame_words (faults.Gap l) = codes "the first byte of the frame, L, is 128 or 129, which format B leaves out"
frame_words (faults.Length want have) = codes "the frame hasn't as many bytes as its first one, L, says"
frame_words (faults.Crc block) = codes "a CRC of the frame differs: it was heard wrongly"

-- why a line isn't taken
abbrev pub reason_words : NotTaken → List ℕ
reason_words reasons.TooLong = codes "it has more than 4,096 bytes, which no telegram's line has"
reason_words reasons.Letter = codes "it doesn't begin with `b`, as a telegram of culfw does"
reason_words reasons.Columns = codes "it hasn't eight columns with a semicolon between two of them"
reason_words reasons.Mode = codes "its mode is none of T1, C1 and S1"
reason_words reasons.Json = codes "it is no JSON text"
reason_words reasons.Model = codes "its model isn't Wireless-MBus"
reason_words reasons.Unchecked = codes "the receiver doesn't say that the CRCs were right"
reason_words reasons.Time = codes "its time isn't a date and a time from 1970 on, as 2026-11-28 03:18:19Z, nor seconds since 1970"
reason_words reasons.Prefix = codes "its telegram doesn't begin with 0x"
reason_words reasons.Data = codes "it has no text named data"
reason_words reasons.Hex = codes "the telegram isn't an even number of hexadecimal digits, at most 1,024"
reason_words reasons.Length = codes "the first byte of the telegram, L, isn't the number of those behind it, or is below 10"
reason_words (reasons.Frame fault) = frame_words fault

-- what the first line lacks whose time names no zone
abbrev pub zone_words : List ℕ
zone_words = codes "its time names no zone and is taken as that of UTC: rtl_433 has to run with -M time:utc, or better with -M time:unix"

-- what is noted of the line with this number
unfoldable pub line_note : ℕ → List ℕ → List ℕ
line_note number words = codes "line_feed: line " ++ decimal number ++ codes ": " ++ words ++ codes "\n"

-- the note of a line that isn't taken
abbrev pub note_text : ℕ → NotTaken → List ℕ
note_text number reason = line_note number (reason_words reason)

-- the note of the first line whose time names no zone
abbrev pub zone_text : ℕ → List ℕ
zone_text number = line_note number zone_words

-- what is noted behind all lines
unfoldable pub ending_text : ℕ → ℕ → List ℕ
ending_text taken left_out =
    codes "line_feed: telegrams taken: " ++ decimal taken ++ codes ", lines not taken: " ++ decimal left_out ++ codes "\n"
