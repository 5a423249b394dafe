-- Which input's line comes next. Inputs have places from 0 on.
use Rattle.std.specs.Prelude.{ℕ, ◌≡◌, ◌<◌, ◌≤◌, nat_lt, if◌then◌else◌, List, [], ◌∷◌, Option, Some, None, zero, suc}

-- the moment at which a line stands: its own, or that of the line before it in its input
abbrev pub carried : ℕ → Option ℕ → ℕ
carried before None = before
carried before (Some at) = at

-- the input at this place has a next line, at this moment
abbrev pub HasHead : List (Option ℕ) → ℕ → ℕ → Type 0
HasHead [] place at = ⊥
HasHead (head ∷ heads) zero at = head ≡ Some at
HasHead (head ∷ heads) (suc place) at = HasHead heads place at

-- its moment is the least, and no input before it has the same
pub record IsLeast (heads : List (Option ℕ)) (place : ℕ) : Type 0 where
  pub at : ℕ
  pub has : HasHead heads place at
  pub least : (other later : ℕ) → HasHead heads other later → at ≤ later
  pub first : (other later : ℕ) → HasHead heads other later → other < place → at < later

-- no input has a next line
abbrev pub AreDone : List (Option ℕ) → Type 0
AreDone [] = Unit {0}
AreDone (head ∷ heads) = (head ≡ None) × AreDone heads

-- ---- word of a private contract

-- the better of what was found among the places before this one and what it has
abbrev pub better : Option (ℕ × ℕ) → ℕ → Option ℕ → Option (ℕ × ℕ)
better best place None = best
better None place (Some at) = Some (place, at)
better (Some found) place (Some at) = if nat_lt at found.1 then Some (place, at) else Some found

-- what was found among the places before a count: nothing, or the first of the least
abbrev pub IsBest : List (Option ℕ) → ℕ → Option (ℕ × ℕ) → Type 0
IsBest heads count None = (other later : ℕ) → HasHead heads other later → other < count → ⊥
IsBest heads count (Some found) =
    (found.0 < count) × HasHead heads found.0 found.1
    × ((other later : ℕ) → HasHead heads other later → other < count → found.1 ≤ later)
    × ((other later : ℕ) → HasHead heads other later → other < found.0 → found.1 < later)
