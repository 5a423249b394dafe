-- Files of lines.
use Rattle.std.specs.Prelude.{ℕ, ◌≡◌, ◌<◌, ◌≤◌, ◌⊎◌, List, [], ◌∷◌, ◌++◌, length}
use Rattle.line_reader.specs.Newlines.{newlines}

-- the last bytes are shown: all of them where there is more room
pub record ShowsEnd (bytes shown : List ℕ) (room : ℕ) : Type 0 where
  pub front : List ℕ
  pub parts : bytes ≡ front ++ shown
  pub all : length shown < room → front ≡ []

-- the bytes end with a newline, unless there are none: they are whole lines
pub record EndsLine (bytes : List ℕ) : Type 0 where
  pub front : List ℕ
  pub is : bytes ≡ front ++ 10 ∷ []

abbrev pub AreWholeLines : List ℕ → Type 0
AreWholeLines bytes = (bytes ≡ []) ⊎ EndsLine bytes

-- what is left of bytes are their whole lines: the line that had no newline yet isn't among them
pub record IsWholePart (bytes left : List ℕ) : Type 0 where
  pub half : List ℕ
  pub parts : bytes ≡ left ++ half
  pub alone : newlines half ≡ 0
  pub whole : AreWholeLines left

-- the last bytes, so many or more, have no newline
pub record HasNoNewline (bytes : List ℕ) (room : ℕ) : Type 0 where
  pub front : List ℕ
  pub last : List ℕ
  pub parts : bytes ≡ front ++ last
  pub long : room ≤ length last
  pub alone : newlines last ≡ 0

-- ---- words of private contracts

-- so many bytes at the end are the line that has no newline yet
pub record IsHalf (bytes : List ℕ) (count : ℕ) : Type 0 where
  pub left : List ℕ
  pub half : List ℕ
  pub parts : bytes ≡ left ++ half
  pub long : length half ≡ count
  pub alone : newlines half ≡ 0
  pub whole : AreWholeLines left

-- the same of a file of which at most 1,024 bytes are looked at
pub record EndsInHalf (bytes : List ℕ) (count : ℕ) : Type 0 where
  pub left : List ℕ
  pub half : List ℕ
  pub parts : bytes ≡ left ++ half
  pub long : length half ≡ count
  pub alone : newlines half ≡ 0
  pub whole : count < 1024 → AreWholeLines left
