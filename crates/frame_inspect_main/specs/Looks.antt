-- What looks at many items show.
use Rattle.std.specs.Prelude.{ℕ, ◌+◌, List, [], ◌∷◌, length, slice_range}
use Rattle.frame_inspect_main.specs.declared.item.Item.{Item}
use Rattle.frame_inspect_main.specs.Runs.{run_start}

-- what is shown of each item, in order, numbered on from a first number
abbrev pub shown_from : (ℕ → Item → List ℕ) → ℕ → List Item → List (List ℕ)
shown_from meaning number [] = []
shown_from meaning number (item ∷ items) = meaning number item ∷ shown_from meaning (number + 1) items

-- what is shown of the items from one place to another, all being numbered from 1
abbrev pub shown_between : (ℕ → Item → List ℕ) → List Item → (start end : ℕ) → List (List ℕ)
shown_between meaning items start end = shown_from meaning (start + 1) (slice_range items start end)

-- what a worker shows
abbrev pub shown_of_run : (ℕ → Item → List ℕ) → List Item → (workers worker : ℕ) → List (List ℕ)
shown_of_run meaning items workers worker =
    shown_between meaning items (run_start (length items) workers worker) (run_start (length items) workers (worker + 1))
