-- The moment that a receiver's own time names: a date and a time of day, or seconds since 1970.
use Rattle.std.specs.Prelude.{ℕ, ◌==◌, ◌&&◌, nat_le, nat_lt, Bool, true, false, ℤ, pos, negsuc, ◌-ℤ◌, List, [], ◌∷◌, length, take, drop}
use Rattle.std.specs.Prelude.{Option, Some, None, is_some, Result, Ok, Err, if◌then◌else◌}
use Rattle.std.specs.Char.{is_ascii_digit}
use Rattle.std.specs.List.{list_all, position}
use Rattle.lists.specs.Steps.{◌>>=◌}
use Rattle.plain_text.specs.Numbers.{number_of}
use Rattle.line_feed.specs.declared.civil.Civil.{Civil}
use Rattle.line_feed.specs.declared.moments.Moment.{Moment}
use Rattle.line_feed.specs.declared.reasons.NotTaken.{NotTaken}
use Rattle.line_feed.specs.declared.reasons.NotTaken.TheVariants as reasons
use Rattle.line_feed.specs.Civil.{has_marks, civil_in, is_day, is_time, seconds_of}
use Rattle.line_feed.specs.Zones.{behind_fraction, zone_in}

-- ---- a date and a time of day

-- The seconds since 1970 of UTC: what a zone's clocks show without what they are ahead. Where no zone is named they are taken as those of UTC.
abbrev pub utc_seconds : Civil → Option ℤ → ℤ
utc_seconds c None = seconds_of c
utc_seconds c (Some ahead) = seconds_of c -ℤ ahead

-- a number that isn't below zero
abbrev pub not_before : ℤ → Result ℕ NotTaken
not_before (pos n) = Ok n
not_before (negsuc n) = Err reasons.Time

abbrev pub utc_moment : Civil → Option ℤ → Result Moment NotTaken
utc_moment c zone = not_before (utc_seconds c zone) >>= λ seconds. Ok (record { seconds = seconds; names_zone = is_some zone })

abbrev pub moment_of : Civil → Option ℤ → Result Moment NotTaken
moment_of c zone = if is_day c && is_time c then utc_moment c zone else Err reasons.Time

abbrev pub is_dated : List ℕ → Bool
is_dated text = if nat_lt (length text) 19 then false else has_marks (take 19 text)

-- the moment of a date and a time of day, behind which a fraction of a second, which is left out, and a zone may stand
unfoldable pub dated_in : List ℕ → Result Moment NotTaken
dated_in text = do
  civil ← civil_in (take 19 text)
  zone ← zone_in (behind_fraction (drop 19 text))
  moment_of civil zone

-- ---- seconds since 1970

-- the last second of the year 9999, so that milliseconds aren't taken for seconds
abbrev pub most_seconds : ℕ
most_seconds = 253402300799

-- seconds since 1970 are those of UTC
abbrev pub since_1970 : Option ℕ → Result Moment NotTaken
since_1970 None = Err reasons.Time
since_1970 (Some seconds) = if nat_le seconds most_seconds then Ok (record { seconds = seconds; names_zone = true }) else Err reasons.Time

-- a point and digits
abbrev pub is_fraction : List ℕ → Bool
is_fraction [] = false
is_fraction (mark ∷ digits) = if mark == 46 then list_all is_ascii_digit digits else false

-- a plain number, behind which a point and digits may stand, which are left out
abbrev pub whole_in : List ℕ → Option ℕ → Option ℕ
whole_in text None = number_of most_seconds text
whole_in text (Some point) = if is_fraction (drop point text) then number_of most_seconds (take point text) else None

-- the moment of seconds since 1970, or of a date and a time of day
abbrev pub moment_in : List ℕ → Result Moment NotTaken
moment_in text = if is_dated text then dated_in text else since_1970 (whole_in text (position (λ b. b == 46) text))
