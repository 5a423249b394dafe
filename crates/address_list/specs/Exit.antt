-- How the program ends.
use Rattle.std.specs.Prelude.{ℕ, Bool, true, false, List, [], ◌∷◌}
use Rattle.std.specs.List.{Contains}

-- there is one word, which names the lines
abbrev pub names_one : {A : Type 0} → List A → Bool
names_one (name ∷ []) = true
names_one words = false

-- how a run ends: all lines are listed, lines that can't be read, a list that can't be written, lines past a limit, no memory, a file that
-- can't be opened
abbrev pub run_exits : List ℕ
run_exits = 0 ∷ 5 ∷ 7 ∷ 8 ∷ 10 ∷ 11 ∷ []

abbrev pub IsRunExit : ℕ → Type 0
IsRunExit status = Contains run_exits status
