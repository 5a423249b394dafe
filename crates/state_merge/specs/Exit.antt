-- How the program ends.
use Rattle.std.specs.Prelude.{ℕ, ◌⊎◌, List, [], ◌∷◌}
use Rattle.std.specs.List.{Contains}

-- where there is no next state: a faulty state or roster, one that can't be read, no memory, a file that can't be opened
abbrev pub refusal_exits : List ℕ
refusal_exits = 3 ∷ 4 ∷ 10 ∷ 11 ∷ []

abbrev pub IsRefusalExit : ℕ → Type 0
IsRefusalExit status = Contains refusal_exits status

-- where there is one: done, a next state that can't be written, a file for it that can't be opened
abbrev pub write_exits : List ℕ
write_exits = 0 ∷ 7 ∷ 11 ∷ []

abbrev pub IsWriteExit : ℕ → Type 0
IsWriteExit status = Contains write_exits status

-- how a merge ends
abbrev pub IsRunExit : ℕ → Type 0
IsRunExit status = IsRefusalExit status ⊎ IsWriteExit status
