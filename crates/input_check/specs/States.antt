-- What is faulty of a state, or of a roster, and its meters.
use Rattle.std.specs.Prelude.{ℕ, ◌≡◌, ◌<◌, ◌≤◌, ◌||◌, nat_lt, Bool, List, [], length, map, Result, Ok, Err}
use Rattle.std.specs.Result.{is_err}
use Rattle.outer_io.specs.Shown.{Change, SourceShown, IsReadOut}
use Rattle.meter_address.specs.Commission.{Commissioned}
use Rattle.meter_slots.specs.Journal.{commission_of}
use Rattle.roster_file.specs.Roster.{Enrolled, roster_of}
use Rattle.state_file.specs.declared.fault.StateFault.{StateFault}
use Rattle.state_file.specs.Whole.{Known, state_of}
use Rattle.input_check.specs.StateFaults.{most_bytes, state_faults_of}
use Rattle.input_check.specs.Bytes.{has_mark, unmarked}

-- a byte order mark stands in front, or a line of the text behind it is faulty
abbrev pub is_faulty_text : List ℕ → Bool
is_faulty_text bytes = has_mark bytes || nat_lt 0 (length (state_faults_of (unmarked bytes)))

-- a text is faulty exactly where it is refused
abbrev pub FaultyAreRefused : Type 0
FaultyAreRefused = (bytes : List ℕ) → is_faulty_text bytes ≡ is_err (state_of bytes)

-- the most bytes of a file: those of a state, or of a roster, as the text behind a mark is one
abbrev pub most_in : List ℕ → ℕ
most_in bytes = most_bytes (unmarked bytes)

-- a file has more
abbrev pub IsTooLong : List ℕ → Type 0
IsTooLong bytes = most_in bytes < length bytes

-- a file was read to its end, and has no more
pub record IsReadWithin (file : Change SourceShown) : Type 0 where
  pub read : IsReadOut file
  pub within : length file.before.left ≤ most_in file.before.left

-- the commissions of a state's meters, or none where it is refused
abbrev pub meters_in : Result Known StateFault → List Commissioned
meters_in (Ok state) = map commission_of state.starts
meters_in (Err fault) = []

-- those of a roster are its own
abbrev pub RostersHaveTheirMeters : Type 0
RostersHaveTheirMeters = (bytes : List ℕ) (r : Enrolled) → roster_of bytes ≡ Ok r → meters_in (state_of bytes) ≡ r.meters
