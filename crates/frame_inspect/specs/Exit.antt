-- How the program ends.
use Rattle.std.specs.Prelude.{ℕ, Bool, false, List, [], ◌∷◌, codes}
use Rattle.std.specs.List.{Contains}
use Rattle.plain_text.specs.Parts.{is_word}

-- the words `--records KEYS FRAMES`
unfoldable pub names_records : List (List ℕ) → Bool
names_records (flag ∷ keys ∷ frames ∷ []) = is_word flag (codes "--records")
names_records words = false

-- how a run ends: done, a file that can't be read, an output that can't be written,
-- a file past its limit, no memory, a file that can't be opened
abbrev pub run_exits : List ℕ
run_exits = 0 ∷ 5 ∷ 7 ∷ 8 ∷ 10 ∷ 11 ∷ []

abbrev pub IsRunExit : ℕ → Type 0
IsRunExit status = Contains run_exits status

-- how a run with records ends: these, a faulty roster, a roster that can't be read
abbrev pub records_exits : List ℕ
records_exits = 0 ∷ 3 ∷ 4 ∷ 5 ∷ 7 ∷ 8 ∷ 10 ∷ 11 ∷ []

abbrev pub IsRecordsExit : ℕ → Type 0
IsRecordsExit status = Contains records_exits status
