-- What is shown of runs of items, one behind another.
use Rattle.std.proofs.Common.{◌≡◌, ◌≤◌, sym, ◌∙◌, ap, arith, drop, length}
use Rattle.std.specs.Prelude.{ℕ, ◌+◌, ◌-◌, List, [], ◌∷◌, ◌++◌, slice_range}
use Rattle.std.specs.List.{flat_map}
use Rattle.std.proofs.lemmas.List.{append_assoc, length-drop, length-take-le, flat_map_more}
use Rattle.std.proofs.lemmas.List.Folds.{drop_split}
use Rattle.frame_inspect_main.specs.declared.item.Item.{Item}
use Rattle.frame_inspect_main.specs.Looks.{shown_from, shown_between, shown_of_run}
use Rattle.frame_inspect_main.specs.Runs.{run_start}
use Rattle.frame_inspect_main.proofs.EvenRuns.{starts_grow, starts_within}

module _ (meaning : ℕ → Item → List ℕ) where
  shown_append : (number next : ℕ) (xs ys : List Item) → number + length xs ≡ next
      → shown_from meaning number (xs ++ ys) ≡ shown_from meaning number xs ++ shown_from meaning next ys
  shown_append number next [] ys is = ap (λ n. shown_from meaning n ys) (omega arith)
  shown_append number next (x ∷ xs) ys is = ap (λ t. meaning number x ∷ t) (shown_append (number + 1) next xs ys (omega arith))

  -- what is shown of the items behind a place, all being numbered from 1
  abbrev pub shown_behind : List Item → ℕ → List (List ℕ)
  shown_behind items place = shown_from meaning (place + 1) (drop place items)

  split : (items : List Item) (start end : ℕ) → start ≤ end → end ≤ length items
      → shown_behind items start ≡ shown_between meaning items start end ++ shown_behind items end
  split items start end grows within =
      let many = length-take-le (end - start) (drop start items) (omega (arith, length-drop start items)) in
      ap (shown_from meaning (start + 1)) (drop_split items start end grows)
      ∙ shown_append (start + 1) (end + 1) (slice_range items start end) (drop end items) (omega (arith, many))

  -- what the workers before one show, and what is shown of the items behind their runs, is what is shown of all
  abbrev pub IsShownTo : List Item → (workers worker : ℕ) → List (List ℕ) → Type 0
  IsShownTo items workers worker shown = shown ++ shown_behind items (run_start (length items) workers worker) ≡ shown_from meaning 1 items

  -- with one run more
  pub one_run_pushed : {R : Type 0} (shown_of : R → List (List ℕ)) (items : List Item) (workers worker next : ℕ)
      (runs all : List R) (run : R) → worker + 1 ≤ workers → next ≡ worker + 1 → all ≡ runs ++ run ∷ []
      → shown_of run ≡ shown_of_run meaning items workers worker
      → IsShownTo items workers worker (flat_map shown_of runs) → IsShownTo items workers next (flat_map shown_of all)
  one_run_pushed shown_of items workers worker next runs all run within counted pushed is shown =
      let start : ℕ = run_start (length items) workers worker in
      let end : ℕ = run_start (length items) workers (worker + 1) in
      rw (counted, pushed, ← flat_map_more shown_of [] runs run)
      (append_assoc (flat_map shown_of runs) (shown_of run) (shown_behind items end)
      ∙ ap (λ t. flat_map shown_of runs ++ t) (ap (λ t. t ++ shown_behind items end) is ∙ sym (split items start end
      (starts_grow (length items) workers worker) (starts_within (length items) workers (worker + 1) within)))
      ∙ shown)
