-- What a receiver that is watched has taken, and whether it has something to say.
use Rattle.std.specs.Prelude.{ℕ, ◌≡◌, ◌==◌, ◌-◌, ◌^◌, min, Bool, true, false, not, List, [], ◌∷◌, length, Option, None, Some}
use Rattle.std.specs.Str.Lines.{lines}
use Rattle.line_reader.specs.Lines.{is_over}
use Rattle.wmbus_files.specs.declared.watched.Taken.{Taken}

-- the last of the lines of these bytes, if they have one, has no newline
unfoldable pub is_unfinished : List ℕ → Bool
is_unfinished [] = false
is_unfinished (b ∷ []) = not (b == 10)
is_unfinished (b ∷ c ∷ later) = is_unfinished (c ∷ later)

-- a number as far as 64 bits count
abbrev pub counted : ℕ → ℕ
counted n = min n (2 ^ 64 - 1)

-- these numbers are the count of these bytes
pub record IsCountOf (bytes : List ℕ) (taken : Taken) : Type 0 where
  pub bytes_are : taken.bytes ≡ counted (length bytes)
  pub lines_are : taken.lines ≡ counted (length (lines bytes))
  pub unfinished_is : taken.unfinished ≡ is_unfinished bytes

-- who has nothing to say has nothing, and who has a number has it until these bytes, all that were taken, go past a limit
pub record IsWatched (bytes : List ℕ) (old new : Option ℕ) (taken : Taken) : Type 0 where
  pub silent : old ≡ None → new ≡ None
  pub past : is_over bytes ≡ true → new ≡ None
  pub within : is_over bytes ≡ false → new ≡ old
  pub counts : (receiver : ℕ) → old ≡ Some receiver → IsCountOf bytes taken
