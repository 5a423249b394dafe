-- Where a stream stands between two reads.
use Rattle.std.specs.Prelude.{ℕ, ◌≡◌, ◌≤◌, ◌<◌, ◌+◌, Bool, true, false, List, ◌++◌, length}
use Rattle.std.specs.Str.Lines.{lines, strip_carriage_return}
use Rattle.line_reader.specs.Newlines.{newlines}
use Rattle.line_reader.specs.Keeps.{IsFinished}

-- what is kept of a line that isn't finished, whether it is longer than a line may be whatever follows, how many lines were finished
-- before it, and the most bytes of a line
pub record Open : Type 0 where
  pub kept : List ℕ
  pub long : Bool
  pub finished : ℕ
  pub longest : ℕ

-- this was read of a line: it is kept, or it is so long that it needn't be
abbrev pub IsKept : Bool → (kept line : List ℕ) → ℕ → Type 0
IsKept false kept line longest = (kept ≡ line) × (length line ≤ longest + 1)
IsKept true kept line longest = longest + 1 < length line

abbrev pub Keeps : Open → List ℕ → Type 0
Keeps begun line = IsKept begun.long begun.kept line begun.longest

-- the bytes are so many lines, each with its newline, and what was read of the next one
pub record StandsAt (bytes : List ℕ) (begun : Open) : Type 0 where
  pub front : List ℕ
  pub line : List ℕ
  pub cut : bytes ≡ front ++ line
  pub whole : IsFinished front
  pub counted : length (lines front) ≡ begun.finished
  pub alone : newlines line ≡ 0
  pub keeps : Keeps begun line

-- the line that bytes are, behind which a newline stands, or the stream ends
abbrev pub told_line : Bool → List ℕ → List ℕ
told_line true line = strip_carriage_return line
told_line false line = line
