-- How the program ends.
use Rattle.std.specs.Prelude.{ℕ, Bool, List, [], ◌∷◌, is_some}
use Rattle.std.specs.List.{Contains}
use Rattle.meter_side_main.specs.Run.{address_in}

-- there are three words, of which the second is an address
abbrev pub names_meter : List (List ℕ) → Bool
names_meter words = is_some (address_in words)

-- how a run ends: done, a faulty roster or state, one that can't be read, deliveries that can't be read, an output that can't be written,
-- deliveries past their limit, no memory, a file that can't be opened, no such meter
abbrev pub run_exits : List ℕ
run_exits = 0 ∷ 3 ∷ 4 ∷ 5 ∷ 7 ∷ 8 ∷ 10 ∷ 11 ∷ 12 ∷ []

abbrev pub IsRunExit : ℕ → Type 0
IsRunExit status = Contains run_exits status
