-- How the program ends.
use Rattle.std.specs.Prelude.{ℕ, List, [], ◌∷◌}
use Rattle.std.specs.List.{Contains}

-- how a run ends: all is listed, not all could be, a report that can't be read, a list that can't be written, a report past its limit,
-- no memory, a file that can't be opened
abbrev pub run_exits : List ℕ
run_exits = 0 ∷ 1 ∷ 5 ∷ 7 ∷ 8 ∷ 10 ∷ 11 ∷ []

abbrev pub IsRunExit : ℕ → Type 0
IsRunExit status = Contains run_exits status
