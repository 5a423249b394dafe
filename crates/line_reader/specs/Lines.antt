-- The lines of a source's bytes, and its limits.
use Rattle.std.specs.Prelude.{ℕ, ◌||◌, nat_lt, Bool, List, take, length, if◌then◌else◌}
use Rattle.std.specs.Str.Lines.{lines}
use Rattle.line_reader.specs.Newlines.{newlines}

-- the lines that end with a newline: as many of the first ones as there are newlines
abbrev pub ended_lines : List ℕ → List (List ℕ)
ended_lines bytes = take (newlines bytes) (lines bytes)

-- a byte stands behind the most bytes or behind the most lines, which makes it one of a further line
unfoldable pub is_over : List ℕ → Bool
is_over bytes = nat_lt 67108864 (length bytes) || nat_lt 131072 (length (lines bytes))

-- the lines that end with a newline within the most bytes, at most the most lines
unfoldable pub whole_lines : List ℕ → List (List ℕ)
whole_lines bytes = take 131072 (ended_lines (take 67108864 bytes))

-- the lines, an unfinished last one among them; past a limit only the whole ones
unfoldable pub all_lines : List ℕ → List (List ℕ)
all_lines bytes = if is_over bytes then whole_lines bytes else lines bytes
