-- A line in columns.
use Rattle.std.specs.Prelude.{ℕ, ◌==◌, List, [], Option, Some, None}
use Rattle.std.specs.List.{slice_split}
use Rattle.std.specs.Borrow.{Bor}

-- the parts of a line between its semicolons
abbrev pub columns_of : List ℕ → List (List ℕ)
columns_of line = slice_split (λ b. b == 59) line

-- the columns of what is left of a line, if anything is
abbrev pub columns_left : Option (Bor (List ℕ)) → List (List ℕ)
columns_left None = []
columns_left (Some rest) = columns_of rest.now
