-- What is shown of runs of items, put on paper a run after another.
use Rattle.std.proofs.Common.{◌≡◌, ℕ, ◌+◌, ◌<◌, List, ◌++◌, length, get_or, drop, sym, ap, ◌∙◌}
use Rattle.std.specs.List.{concat, flat_map}
use Rattle.std.proofs.lemmas.List.{drop_more}
use Rattle.std.proofs.lemmas.List.Folds.{concat-append}
use Rattle.paper.specs.Puts.{Puts}
use Rattle.paper.proofs.Calls.{two_make}

-- the run at a place, and then those behind it
pub put_next_run : {P R : Type 0} {takes : P → List ℕ → P → Type 0} {p q r : P} (shown_of : R → List (List ℕ)) (runs : List R) (i : ℕ)
    (run : R) (shown : List (List ℕ)) → i < length runs → run ≡ get_or runs i run → shown ≡ shown_of run
    → Puts takes p (concat shown) q → Puts takes q (concat (flat_map shown_of (drop (i + 1) runs))) r
    → Puts takes p (concat (flat_map shown_of (drop i runs))) r
put_next_run shown_of runs i run shown within at is one later =
    two_make (concat (flat_map shown_of (drop i runs))) one later (
    ap (λ t. concat (flat_map shown_of t)) (drop_more runs i run within)
    ∙ ap (λ x. concat (shown_of x ++ flat_map shown_of (drop (i + 1) runs))) (sym at)
    ∙ concat-append (shown_of run) (flat_map shown_of (drop (i + 1) runs))
    ∙ ap (λ t. concat t ++ concat (flat_map shown_of (drop (i + 1) runs))) (sym is))
