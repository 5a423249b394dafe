-- A date and a time of day, as they are written, and the seconds that they count.
use Rattle.std.specs.Prelude.{ℕ, ◌+◌, ◌-◌, ◌*◌, ◌==◌, ◌&&◌, ◌||◌, nat_le, nat_lt, Bool, false}
use Rattle.std.specs.Prelude.{ℤ, pos, ◌+ℤ◌, ◌*ℤ◌, List, slice_index, Option, Some, None, Result, Ok, if◌then◌else◌}
use Rattle.std.specs.Char.{is_ascii_digit}
use Rattle.std.specs.Option.{ok_or}
use Rattle.lists.specs.Steps.{◌>>=◌}
use Rattle.jiff_core.specs.Calendar.{days_from_civil, days_in_month}
use Rattle.line_feed.specs.declared.civil.Civil.{Civil}
use Rattle.line_feed.specs.declared.reasons.NotTaken.{NotTaken}
use Rattle.line_feed.specs.declared.reasons.NotTaken.TheVariants as reasons

-- the number of two digits at this place
abbrev pub two_at : List ℕ → ℕ → Option ℕ
two_at text place =
    let tens : ℕ = slice_index text place in
    let ones : ℕ = slice_index text (place + 1) in
    if is_ascii_digit tens && is_ascii_digit ones then Some ((tens - 48) * 10 + (ones - 48)) else None

abbrev pub two_in : List ℕ → ℕ → Result ℕ NotTaken
two_in text place = ok_or (two_at text place) reasons.Time

-- `-` in the date, a space or a `T` behind it, `:` in the time
abbrev pub has_marks : List ℕ → Bool
has_marks text =
    slice_index text 4 == 45 && slice_index text 7 == 45
    && (slice_index text 10 == 32 || slice_index text 10 == 84)
    && slice_index text 13 == 58 && slice_index text 16 == 58

-- the numbers in `YYYY-MM-DD HH:MM:SS`
unfoldable pub civil_in : List ℕ → Result Civil NotTaken
civil_in text = do
  century ← two_in text 0
  year ← two_in text 2
  month ← two_in text 5
  day ← two_in text 8
  hour ← two_in text 11
  minute ← two_in text 14
  second ← two_in text 17
  Ok (record { year = century * 100 + year; month = month; day = day; hour = hour; minute = minute; second = second })

-- the calendar has the day
abbrev pub is_day : Civil → Bool
is_day c =
    if nat_lt c.month 1 then false
    else if nat_lt 12 c.month then false
    else if nat_lt c.day 1 then false
    else nat_le c.day (days_in_month (pos c.year) c.month)

-- a clock shows the time
abbrev pub is_time : Civil → Bool
is_time c =
    if nat_lt 23 c.hour then false
    else if nat_lt 59 c.minute then false
    else nat_le c.second 59

-- the seconds since 1970 of a clock that shows it, in days of 86,400 seconds
abbrev pub seconds_of : Civil → ℤ
seconds_of c = days_from_civil (pos c.year) c.month c.day *ℤ pos 86_400 +ℤ pos (c.hour * 3600 + c.minute * 60 + c.second)
