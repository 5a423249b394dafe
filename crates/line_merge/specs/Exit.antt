-- How the program ends.
use Rattle.std.specs.Prelude.{ℕ, List, [], ◌∷◌}
use Rattle.std.specs.List.{Contains}

-- how a merge ends: all lines are written, an input that can't be read, a line that can't be written, an input past a limit, no memory, a
-- file that can't be opened
abbrev pub run_exits : List ℕ
run_exits = 0 ∷ 5 ∷ 7 ∷ 8 ∷ 10 ∷ 11 ∷ []

abbrev pub IsRunExit : ℕ → Type 0
IsRunExit status = Contains run_exits status

-- how one ends that can't begin: no memory, a file that can't be opened
abbrev pub IsUnopened : ℕ → Type 0
IsUnopened status = Contains (10 ∷ 11 ∷ []) status
