-- What callers see of a source and of a sink in memory.
use Rattle.std.specs.Prelude.{ℕ, ◌+◌, ◌-◌, ◌^◌, ◌<◌, List, Option, Some, None, min, Contains}

-- a source in memory: the bytes taken and left, how many bytes a read takes at most, the numbers of the reads that fail,
-- the reads and the faults so far
pub record ReadState : Type 0 where
  pub taken : List ℕ
  pub left : List ℕ
  pub size : Option ℕ
  pub listed : List ℕ
  pub calls : ℕ
  pub faults : ℕ

-- a sink in memory: the bytes written, how many bytes a write takes at most, the numbers of the writes that fail,
-- the writes and the faults so far
pub record WriteState : Type 0 where
  pub written : List ℕ
  pub size : Option ℕ
  pub listed : List ℕ
  pub calls : ℕ
  pub faults : ℕ

-- as many, or the size where there is one and it is less
abbrev pub limited : Option ℕ → ℕ → ℕ
limited None count = count
limited (Some size) count = min size count

-- after this many calls the next one's number, counted from 1, is listed
abbrev pub IsNextListed : List ℕ → ℕ → Type 0
IsNextListed listed calls = (calls < 2 ^ 64 - 1) × Contains listed (calls + 1)
