-- What a read or a write does to the bytes that are told.
use Rattle.std.specs.Prelude.{ℕ, ◌≡◌, ◌≤◌, List, ◌++◌, length, take}

-- a read moves these bytes from the front of what was left to the end of what was taken
pub record Moves (bytes taken left taken' left' : List ℕ) : Type 0 where
  pub front : left ≡ bytes ++ left'
  pub back : taken' ≡ taken ++ bytes

-- some first bytes of these were appended, and nothing else
pub record AppendsFront (bytes old new : List ℕ) : Type 0 where
  pub count : ℕ
  pub within : count ≤ length bytes
  pub appended : new ≡ old ++ take count bytes
