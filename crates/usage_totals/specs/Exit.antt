-- How the program ends.
use Rattle.std.specs.Prelude.{ℕ, List, [], ◌∷◌}
use Rattle.std.specs.List.{Contains}

-- how a run ends: done, edits that can't be read, an answer that can't be written, edits past their limit, no memory, a file that can't
-- be opened
abbrev pub run_exits : List ℕ
run_exits = 0 ∷ 5 ∷ 7 ∷ 8 ∷ 10 ∷ 11 ∷ []

abbrev pub IsRunExit : ℕ → Type 0
IsRunExit status = Contains run_exits status
