-- What holds of each roster that is read.
use Rattle.std.specs.Prelude.{ℕ, ◌≡◌, ◌<◌, ◌≤◌, ◌^◌, List, length, map, Ok}
use Rattle.lists.specs.Each.{Each}
use Rattle.meter_address.specs.Address.{AreApart}
use Rattle.meter_address.specs.Commission.{IsCommission}
use Rattle.roster_file.specs.Roster.{Enrolled, roster_of}
use Rattle.roster_file.specs.Text.{roster_text}

-- at most 4,096 meters, whose addresses differ, each of them as it can be commissioned
pub record IsEnrolled (r : Enrolled) : Type 0 where
  pub own : r.own.0 < 2 ^ 64
  pub few : length r.meters ≤ 4096
  pub apart : AreApart (map (λ c. c.address) r.meters)
  pub each : Each IsCommission r.meters

-- a text gives no other rosters
abbrev pub ReadAreEnrolled : Type 0
ReadAreEnrolled = (bytes : List ℕ) (r : Enrolled) → roster_of bytes ≡ Ok r → IsEnrolled r

-- a roster of which this holds is read back from its text
abbrev pub WrittenAreRead : Type 0
WrittenAreRead = (r : Enrolled) → IsEnrolled r → roster_of (roster_text r) ≡ Ok r

-- each roster that can be read is read again from its text
abbrev pub ReadAreReadAgain : Type 0
ReadAreReadAgain = (bytes : List ℕ) (r : Enrolled) → roster_of bytes ≡ Ok r → roster_of (roster_text r) ≡ Ok r
