-- Words of private contracts: a list that is checked pair by pair.
use Rattle.std.specs.Prelude.{ℕ, zero, suc, ◌≡◌, ◌≤◌, List, length, take, slice_index_or}
use Rattle.receivers.specs.Orders.{numbers_by}

-- how many lines of the receiver with this number were taken
abbrev pub taken_of : List ℕ → ℕ → ℕ
taken_of taken zero = 0
taken_of taken (suc w) = slice_index_or taken w 0

-- of each receiver these pairs are its first lines, as many as were taken
pub record HaveTaken (numbers : ℕ → List ℕ) (order : List (ℕ × ℕ)) (taken : List ℕ) : Type 0 where
  pub first_ones : (w : ℕ) → numbers_by w order ≡ take (taken_of taken w) (numbers w)
  pub within : (w : ℕ) → taken_of taken w ≤ length (numbers w)
