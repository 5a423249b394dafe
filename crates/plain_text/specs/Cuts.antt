-- Words of private contracts: a text that is cut at a separator.
use Rattle.std.specs.Prelude.{ℕ, ◌≡◌, ◌==◌, List, [], ◌∷◌}
use Rattle.std.specs.List.{slice_split}

-- the part of a text that has no separator
pub record IsLastPart (separator : ℕ) (text part : List ℕ) : Type 0 where
  pub whole : part ≡ text
  pub alone : slice_split (λ b. b == separator) text ≡ part ∷ []

-- the part in front of the first separator, and what stands behind it
pub record IsNextPart (separator : ℕ) (text part rest : List ℕ) : Type 0 where
  pub first : slice_split (λ b. b == separator) text ≡ part ∷ slice_split (λ b. b == separator) rest
