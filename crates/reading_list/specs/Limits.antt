-- The lines of a report, and its limit.
use Rattle.std.specs.Prelude.{ℕ, nat_lt, Bool, List, take, length, if◌then◌else◌}
use Rattle.std.specs.Str.Lines.{lines}
use Rattle.line_reader.specs.Lines.{ended_lines}

-- a byte stands behind the most bytes
unfoldable pub is_over : List ℕ → Bool
is_over bytes = nat_lt 1073741824 (length bytes)

-- the lines that end with a newline within the most bytes
unfoldable pub whole_lines : List ℕ → List (List ℕ)
whole_lines bytes = ended_lines (take 1073741824 bytes)

-- the lines, an unfinished last one among them; past the limit only the whole ones
unfoldable pub all_lines : List ℕ → List (List ℕ)
all_lines bytes = if is_over bytes then whole_lines bytes else lines bytes
