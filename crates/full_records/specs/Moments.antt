-- Dates and times (EN 13757-3, annex A, types F, G, I and J).
use Rattle.std.specs.Prelude.{ℕ, ◌+◌, ◌*◌, ◌&&◌, nat_le, ◌==◌, if◌then◌else◌, Option, Some, None}
use Rattle.record_values.specs.Values.{bits, year_of}
use Rattle.full_records.specs.declared.moments.Day.{Day}
use Rattle.full_records.specs.declared.moments.TimeOfDay.{TimeOfDay}
use Rattle.full_records.specs.declared.moments.Moment.{Moment}
use Rattle.full_records.specs.declared.moments.LongMoment.{LongMoment}

-- from left to right, and none where one of them is none
infixl 10 ◌>>=◌
abbrev pub ◌>>=◌ : {A B : Type 0} → Option A → (A → Option B) → Option B
(Some x) >>= f = f x
None >>= f = None

-- A part of a date or a time: one number stands for every one; none is out of its range.
abbrev pub field : ℕ → ℕ → ℕ → ℕ → Option (Option ℕ)
field every least most number =
    if number == every then Some None else
    (if nat_le least number && nat_le number most then Some (Some number) else
    None)

-- seven bits of a year, 127 for every one
abbrev pub year_field : ℕ → ℕ → Option (Option ℕ)
year_field hundreds year =
    if year == 127 then Some None else
    (if nat_le year 99 then Some (Some (year_of hundreds year)) else
    None)

-- a date, in sixteen bits from one on: type G, and in types F and I
unfoldable pub day_in : ℕ → ℕ → ℕ → Option Day
day_in word from hundreds = do
  year ← year_field hundreds (bits word (from + 5) 3 + 8 * bits word (from + 12) 4)
  month ← field 15 1 12 (bits word (from + 8) 4)
  day ← field 0 1 31 (bits word from 5)
  Some (record { year = year; month = month; day = day })

-- a time of day: type J, and in type I
unfoldable pub time_in : ℕ → Option TimeOfDay
time_in word = do
  hour ← field 31 0 23 (bits word 16 5)
  minute ← field 63 0 59 (bits word 8 6)
  second ← field 63 0 59 (bits word 0 6)
  Some (record { hour = hour; minute = minute; second = second })

-- type F: a date and a time to the minute
unfoldable pub moment_in : ℕ → Option Moment
moment_in word = do
  day ← day_in word 16 (bits word 13 2)
  hour ← field 31 0 23 (bits word 8 5)
  minute ← field 63 0 59 (bits word 0 6)
  Some (record { day = day; hour = hour; minute = minute; invalid = bits word 7 1 == 1; summer = bits word 15 1 == 1 })

-- a week of six bits; 0 where it is none of a year's
abbrev pub week_of : ℕ → ℕ
week_of week = if nat_le week 53 then week else 0

-- type I: a date and a time to the second
unfoldable pub long_moment_in : ℕ → Option LongMoment
long_moment_in word = do
  day ← day_in word 24 0
  time ← time_in word
  Some (record {
    day = day;
    time = time;
    invalid = bits word 15 1 == 1;
    summer = bits word 6 1 == 1;
    leap_year = bits word 7 1 == 1;
    weekday = bits word 21 3;
    week = week_of (bits word 40 6);
    deviation_sign = bits word 14 1 == 1;
    deviation = bits word 46 2;
  })
