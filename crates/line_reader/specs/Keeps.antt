-- What the lines of a source keep between two calls.
use Rattle.std.specs.Prelude.{ℕ, ◌≡◌, ◌≤◌, Bool, true, false, List, [], ◌++◌, length, take, drop, IsTrue}
use Rattle.std.specs.Str.Lines.{lines}
use Rattle.line_reader.specs.Newlines.{newlines}
use Rattle.line_reader.specs.Reading.{line_text}
use Rattle.line_reader.specs.Lines.{is_over}
use Rattle.line_reader.specs.declared.lines.TheConstants.{LINES_MAX, BYTES_MAX}

-- each line of the bytes ends with a newline, so that what follows them begins a line
pub record IsFinished (bytes : List ℕ) : Type 0 where
  pub follow : (rest : List ℕ) → lines (bytes ++ rest) ≡ lines bytes ++ lines rest
  pub counted : newlines bytes ≡ length (lines bytes)

-- the first bytes taken, so many, are the lines that were given, and the others are held
pub record IsReader (start line : ℕ) (taken held : List ℕ) : Type 0 where
  pub within : start ≤ length taken
  pub behind : held ≡ drop start taken
  pub finished : IsFinished (take start taken)
  pub counted : length (lines (take start taken)) ≡ line

-- an unfinished last line was given too, the last of all lines
pub record IsLast (line : ℕ) (taken left : List ℕ) : Type 0 where
  pub nothing_left : left ≡ []
  pub within : is_over taken ≡ false
  pub counted : length (lines taken) ≡ line

-- the limits, and what a source that tells its bytes shows of the lines given, unless no more is given
pub record Keeps (tells : Bool) (start line : ℕ) (ended done : Bool) (taken left held : List ℕ) : Type 0 where
  pub few_lines : line ≤ LINES_MAX
  pub few_bytes : start ≤ BYTES_MAX
  pub reader : IsTrue tells → done ≡ false → ended ≡ false → IsReader start line taken held
  pub last : IsTrue tells → done ≡ false → ended ≡ true → IsLast line taken left

-- the same where a line is lent from the front of what is held: it is no longer than a line may be
pub record IsTextReader (tells : Bool) (longest lent start line : ℕ) (ended done : Bool) (taken left held : List ℕ) : Type 0 where
  pub room : longest ≤ 15359
  pub within : lent ≤ length held
  pub short : length (line_text (take lent held)) ≤ longest
  pub keeps : Keeps tells start line ended done taken left (drop lent held)
