-- How the program ends.
use Rattle.std.specs.Prelude.{ℕ, List, [], ◌∷◌}
use Rattle.std.specs.List.{Contains}

-- how a run ends: yes, a state that can't be read, a receiver that can't be read, an answer that can't be written, a report past its
-- limit, no memory, a file that can't be opened, no, a report that can't be read, a next state that can't be read
abbrev pub run_exits : List ℕ
run_exits = 0 ∷ 4 ∷ 5 ∷ 7 ∷ 8 ∷ 10 ∷ 11 ∷ 12 ∷ 13 ∷ 14 ∷ []

abbrev pub IsRunExit : ℕ → Type 0
IsRunExit status = Contains run_exits status

-- how one ends that can't begin: no memory, a file that can't be opened
abbrev pub IsUnopened : ℕ → Type 0
IsUnopened status = Contains (10 ∷ 11 ∷ []) status
