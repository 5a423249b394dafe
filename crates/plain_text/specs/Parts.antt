-- A line in fields.
use Rattle.std.specs.Prelude.{ℕ, ◌==◌, nat_eq, Bool, List, [], Option, Some, None}
use Rattle.std.specs.List.{slice_split}
use Rattle.std.specs.Borrow.{Bor}
use Rattle.std.specs.Cmp.Lexicographic.{pointwise}

-- the parts of a line between its spaces: one more than there are spaces, and joined by spaces they are the line
abbrev pub fields_of : List ℕ → List (List ℕ)
fields_of line = slice_split (λ b. b == 32) line

-- the fields of what is left of a line, if anything is
abbrev pub fields_left : Option (Bor (List ℕ)) → List (List ℕ)
fields_left None = []
fields_left (Some rest) = fields_of rest.now

-- a text is this word: the same bytes, in the same places
abbrev pub is_word : List ℕ → List ℕ → Bool
is_word text word = pointwise nat_eq text word
