-- The zone behind a date and a time of day: RFC 3339, section 5.6, and without the colon the basic format of ISO 8601.
use Rattle.std.specs.Prelude.{ℕ, ◌+◌, ◌*◌, ◌==◌, ◌&&◌, nat_le, List, [], ◌∷◌, length, drop, slice_index, not}
use Rattle.std.specs.Prelude.{ℤ, pos, neg_ℤ, Option, Some, None, Result, Ok, Err, if◌then◌else◌}
use Rattle.std.specs.Char.{is_ascii_digit}
use Rattle.std.specs.List.{position}
use Rattle.lists.specs.Steps.{◌>>=◌}
use Rattle.line_feed.specs.declared.reasons.NotTaken.{NotTaken}
use Rattle.line_feed.specs.declared.reasons.NotTaken.TheVariants as reasons
use Rattle.line_feed.specs.Civil.{two_in}

-- ---- the fraction of a second, which is left out

abbrev pub from_place : List ℕ → Option ℕ → List ℕ
from_place text None = []
from_place text (Some place) = drop place text

-- what stands behind the digits at the front
abbrev pub behind_digits : List ℕ → List ℕ
behind_digits text = from_place text (position (λ b. not (is_ascii_digit b)) text)

-- what stands behind a point and digits, if those stand at the front
abbrev pub behind_fraction : List ℕ → List ℕ
behind_fraction [] = []
behind_fraction (mark ∷ rest) = if mark == 46 then behind_digits rest else mark ∷ rest

-- ---- the zone: by how many seconds its clocks are ahead of those of UTC

abbrev pub signed : (sign seconds : ℕ) → Result ℤ NotTaken
signed sign seconds =
    if sign == 43 then Ok (pos seconds)
    else if sign == 45 then Ok (neg_ℤ (pos seconds))
    else Err reasons.Time

abbrev pub span_of : (hours minutes : ℕ) → Result ℕ NotTaken
span_of hours minutes = if nat_le hours 23 && nat_le minutes 59 then Ok (hours * 3600 + minutes * 60) else Err reasons.Time

-- `+` or `-`, two digits of hours, and two digits of minutes at this place
unfoldable pub shift_in : List ℕ → ℕ → Result ℤ NotTaken
shift_in text place = do
  hours ← two_in text 1
  minutes ← two_in text place
  seconds ← span_of hours minutes
  signed (slice_index text 0) seconds

abbrev pub known : Result ℤ NotTaken → Result (Option ℤ) NotTaken
known shift = shift >>= λ seconds. Ok (Some seconds)

-- none, `Z`, `+hhmm` or `+hh:mm`
abbrev pub zone_in : List ℕ → Result (Option ℤ) NotTaken
zone_in text =
    if length text == 0 then Ok None
    else if length text == 1 then (if slice_index text 0 == 90 then Ok (Some (pos 0)) else Err reasons.Time)
    else if length text == 5 then known (shift_in text 3)
    else if length text == 6 then (if slice_index text 3 == 58 then known (shift_in text 4) else Err reasons.Time)
    else Err reasons.Time
