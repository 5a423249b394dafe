-- How the program ends.
use Rattle.std.specs.Prelude.{ℕ, List, [], ◌∷◌}
use Rattle.std.specs.List.{Contains}

-- how a run ends: done, faulty senders, senders that can't be read, deliveries that can't be read, an output that can't be written,
-- deliveries past their limit, no memory, a file that can't be opened
abbrev pub run_exits : List ℕ
run_exits = 0 ∷ 3 ∷ 4 ∷ 5 ∷ 7 ∷ 8 ∷ 10 ∷ 11 ∷ []

abbrev pub IsRunExit : ℕ → Type 0
IsRunExit status = Contains run_exits status
