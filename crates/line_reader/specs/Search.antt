-- Words of private contracts: what the search for the end of a line found.
use Rattle.std.specs.Prelude.{ℕ, ◌≡◌, ◌+◌, ◌<◌, ◌≤◌, Bool, true, false, List, [], ◌++◌, length, take, drop}
use Rattle.outer_io.specs.Bytes.{Moves}
use Rattle.line_reader.specs.Newlines.{newlines}
use Rattle.line_reader.specs.Reading.{BeginsWithLine}
use Rattle.line_reader.specs.declared.search.Ending.{Ending}
use Rattle.line_reader.specs.declared.search.Ending.TheVariants.{Line, Source, Limit, Fault}

-- what is held of a line's bytes after so many were given up, which made it too long
pub record IsRestOfLine (longest : ℕ) (line held : List ℕ) (given_up : ℕ) : Type 0 where
  pub within : given_up ≤ length line
  pub rest : held ≡ drop given_up line
  pub long : 0 < given_up → longest + 1 < given_up

-- the source ended behind these bytes, none of which is a newline: its last line
pub record IsLastLine (line left : List ℕ) (count : ℕ) : Type 0 where
  pub alone : newlines line ≡ 0
  pub nothing_left : left ≡ []
  pub long : count ≡ length line
  pub some : 0 < count

-- so many bytes behind those that were given up end a line: with its newline, or as the last line
abbrev pub EndsAt : Bool → (line left : List ℕ) → (given_up count : ℕ) → Type 0
EndsAt false line left given_up count = (0 < count) × BeginsWithLine line (given_up + count)
EndsAt true line left given_up count = IsLastLine line left (given_up + count)

-- these are the bytes behind the last line that was given, of which at most so many count
abbrev pub Finds : Ending → ℕ → (line held left : List ℕ) → ℕ → Type 0
Finds (Line given_up count last) longest line held left most =
    IsRestOfLine longest line held given_up × EndsAt last line left given_up count
Finds Source longest line held left most = (line ≡ []) × (left ≡ [])
Finds Limit longest line held left most = (most < length line) × (newlines (take most line) ≡ 0)
Finds Fault longest line held left most = (newlines line ≡ 0) × (length line ≤ most)

-- the numbers of a line are those of bytes that are held, and at most so many count
abbrev pub FitsIn : Ending → (held : List ℕ) → ℕ → Type 0
FitsIn (Line given_up count last) held most = (0 < given_up + count) × (count ≤ length held) × (given_up + count ≤ most)
FitsIn Source held most = Unit {0}
FitsIn Limit held most = Unit {0}
FitsIn Fault held most = Unit {0}

-- the last line of a source, or nothing at its end
abbrev pub IsEndAt : (given_up count : ℕ) → Ending → Type 0
IsEndAt given_up count (Line up rest last) = (up ≡ given_up) × (rest ≡ count) × (last ≡ true) × (0 < given_up + count)
IsEndAt given_up count Source = given_up + count ≡ 0
IsEndAt given_up count Limit = ⊥
IsEndAt given_up count Fault = ⊥

-- what was read in a search and what it found behind the bytes that were held
pub record Searches (ending : Ending) (longest most : ℕ) (held held' taken left taken' left' : List ℕ) : Type 0 where
  pub added : List ℕ
  pub moves : Moves added taken left taken' left'
  pub finds : Finds ending longest (held ++ added) held' left' most
