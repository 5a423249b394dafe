-- Lines of rtl_wmbus.
use Rattle.std.specs.Prelude.{ℕ, ◌==◌, ◌&&◌, List, [], ◌∷◌, codes, Result, Ok, Err, if◌then◌else◌}
use Rattle.lists.specs.Steps.{◌>>=◌}
use Rattle.plain_text.specs.Parts.{is_word}
use Rattle.line_feed.specs.declared.heard.Reception.{Reception}
use Rattle.line_feed.specs.declared.reasons.NotTaken.{NotTaken}
use Rattle.line_feed.specs.declared.reasons.NotTaken.TheVariants as reasons
use Rattle.line_feed.specs.Columns.{columns_of}
use Rattle.line_feed.specs.Digits.{telegram_in}
use Rattle.line_feed.specs.Heard.{heard_at}
use Rattle.line_feed.specs.Moments.{moment_in}

abbrev pub known_mode : List ℕ → Result (Unit {0}) NotTaken
known_mode mode =
    if is_word mode (codes "T1") then Ok tt
    else if is_word mode (codes "C1") then Ok tt
    else if is_word mode (codes "S1") then Ok tt
    else Err reasons.Mode

-- the receiver says that the CRCs were right
abbrev pub checked : List ℕ → Result (Unit {0}) NotTaken
checked flag = if is_word flag (codes "1") then Ok tt else Err reasons.Unchecked

-- the digits behind `0x`
abbrev pub prefixed : List ℕ → Result (List ℕ) NotTaken
prefixed (first ∷ letter ∷ digits) = if first == 48 && letter == 120 then Ok digits else Err reasons.Prefix
prefixed text = Err reasons.Prefix

-- the mode, whether the CRCs were right and whether the line code was, the time, two strengths, the meter's number, and the telegram
unfoldable pub columns_heard : List (List ℕ) → Result Reception NotTaken
columns_heard (mode ∷ right ∷ code ∷ time ∷ strength ∷ now ∷ meter ∷ text ∷ []) = do
  known ← known_mode mode
  passed ← checked right
  moment ← moment_in time
  digits ← prefixed text
  telegram ← telegram_in digits
  Ok (heard_at moment telegram)
columns_heard columns = Err reasons.Columns

abbrev pub rtl_wmbus_heard : List ℕ → Result Reception NotTaken
rtl_wmbus_heard line = columns_heard (columns_of line)
