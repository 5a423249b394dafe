-- The first byte at which two texts differ.
use Rattle.std.specs.Prelude.{ℕ, ◌≡◌, ◌≢◌, List, take, slice_get}

-- the first bytes, so many, are the same, and the next one is another, or only one of the texts has one
pub record DiffersAt (place : ℕ) (text other : List ℕ) : Type 0 where
  pub same : take place text ≡ take place other
  pub differs : slice_get text place ≢ slice_get other place
