-- The words of the program.
use Rattle.std.specs.Prelude.{ℕ, ◌+◌, ◌&&◌, nat_le, Bool, true, false, List, [], ◌∷◌, length, map, codes, nat_eq, Option, Some, None, if◌then◌else◌}
use Rattle.std.specs.String.{string_bytes}
use Rattle.std.specs.Cmp.Lexicographic.{pointwise}
use Rattle.line_merge.specs.declared.asked.Asked.{Asked}

abbrev pub is_dash : List ℕ → Bool
is_dash word = pointwise nat_eq word (codes "-")

-- how many of the names are that of the standard input
abbrev pub dashes : List (List ℕ) → ℕ
dashes [] = 0
dashes (name ∷ names) = if is_dash name then dashes names + 1 else dashes names

-- one to sixteen names, and at most one of them that of the standard input
abbrev pub are_inputs : List (List ℕ) → Bool
are_inputs names = nat_le 1 (length names) && nat_le (length names) 16 && nat_le (dashes names) 1

-- inputs that are to be merged: whether each line has its input's number in front of it, and their names in their order
pub record Merge : Type 0 where
  pub numbered : Bool
  pub names : List (List ℕ)

-- what a value of the code says
abbrev pub merge_of : Asked → Merge
merge_of asked = record { numbered = asked.numbered; names = map string_bytes asked.names.now }

-- the inputs of these names, where they can be merged
abbrev pub of_names : Bool → List (List ℕ) → Option Merge
of_names numbered names = if are_inputs names then Some (record { numbered = numbered; names = names }) else None

-- what the words ask for: the inputs of their names, with their numbers where `--numbered` stands in front
abbrev pub merge_asked : List (List ℕ) → Option Merge
merge_asked [] = of_names false []
merge_asked (flag ∷ names) = if pointwise nat_eq flag (codes "--numbered") then of_names true names else of_names false (flag ∷ names)
