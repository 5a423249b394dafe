-- Words of private contracts: a text that is compared with another one piece by piece.
use Rattle.std.specs.Prelude.{ℕ, ◌≡◌, ◌≢◌, ◌==◌, ◌+◌, ◌<◌, ◌≤◌, Bool, true, false, if◌then◌else◌, List, ◌++◌, length, take, drop, slice_get, position, Option, Some, None}

-- the text, how much of it was found, and whether what was put differs from it behind that
pub record Compared : Type 0 where
  pub text : List ℕ
  pub place : ℕ
  pub differs : Bool

-- so many first bytes of two texts are the same, and behind them the texts differ, or one of them ends
pub record IsCommon (count : ℕ) (text other : List ℕ) : Type 0 where
  pub in_text : count ≤ length text
  pub in_other : count ≤ length other
  pub same : take count text ≡ take count other
  pub stops : count < length other → slice_get text count ≢ slice_get other count

-- how far what was put is the text
pub record IsSoFar (c : Compared) (put : List ℕ) : Type 0 where
  pub within : c.place ≤ length c.text
  pub same : c.differs ≡ false → put ≡ take c.place c.text
  pub front : c.differs ≡ true → take c.place put ≡ take c.place c.text
  pub inside : c.differs ≡ true → c.place < length put
  pub other : c.differs ≡ true → slice_get c.text c.place ≢ slice_get put c.place

-- after a piece the text was compared with all that was put so far
pub record Compares (old : Compared) (piece : List ℕ) (new : Compared) : Type 0 where
  pub same_text : new.text ≡ old.text
  pub goes_on : (put : List ℕ) → IsSoFar old put → IsSoFar new (put ++ piece)

-- ---- a line that is compared later

-- so many bytes stand before what is behind the newline at this place; all, where there is no newline
abbrev pub len_to : List ℕ → Option ℕ → ℕ
len_to bytes None = length bytes
len_to bytes (Some place) = place + 1

-- how many bytes the first line has, with its newline
abbrev pub line_len : List ℕ → ℕ
line_len bytes = len_to bytes (position (λ b. b == 10) bytes)

-- a line is passed over: what comes is compared with what stands behind it
abbrev pub line_passed : Compared → Compared
line_passed c = record c { place = c.place + line_len (drop c.place c.text) }

-- what was compared, of a line and of what stands behind it: where the line differs, that comes first
abbrev pub settled : (line behind : Compared) → Compared
settled line behind = if line.differs then line else behind
