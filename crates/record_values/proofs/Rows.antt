-- The rows of the tables ascend, so that no code is in two of them.
use Rattle.std.proofs.Common.{◌≡◌, ℕ, zero, suc, ◌+◌, ◌≤◌, Bool, true, leb, ◌&&◌, List, [], ◌∷◌, Some, sym, ap, subst, ◌∙◌, arith, slice_get}
use Rattle.std.proofs.lemmas.Bool.{leb-true, le-leb, lt-leb, and_parts, and_from, and_right, cond-true, cond-false}
use Rattle.std.proofs.lemmas.Option.{same_Some}
use Rattle.record_values.specs.declared.unit_tables.UnitRow.{UnitRow}
use Rattle.record_values.specs.Units.{unit_by, EachRowCounts}

-- each row begins at a code or after it, and the next ones after its last
abbrev pub ascends : ℕ → List UnitRow → Bool
ascends next [] = true
ascends next (r ∷ rows) = leb next r.first && (leb r.first r.last && ascends (r.last + 1) rows)

row_from : (next : ℕ) (rows : List UnitRow) (place : ℕ) (r : UnitRow) → ascends next rows ≡ true → slice_get rows place ≡ Some r
    → next ≤ r.first
row_from next [] place r up there = absurd cc
row_from next (s ∷ rows) zero r up there =
    let parts = and_parts (leb next s.first) (leb s.first s.last && ascends (s.last + 1) rows) up in
    let same : s ≡ r = same_Some s r there in
    subst (λ (x : UnitRow). next ≤ x.first) same (leb-true next s.first parts.0)
row_from next (s ∷ rows) (suc place) r up there =
    let parts = and_parts (leb next s.first) (leb s.first s.last && ascends (s.last + 1) rows) up in
    let rest = and_parts (leb s.first s.last) (ascends (s.last + 1) rows) parts.1 in
    omega (arith, row_from (s.last + 1) rows place r rest.1 there, leb-true next s.first parts.0, leb-true s.first s.last rest.0)

counts_in : (next : ℕ) (rows : List UnitRow) → ascends next rows ≡ true → EachRowCounts rows
counts_in next [] up place r code modifiers_at modifiers there low high = absurd cc
counts_in next (s ∷ rows) up zero r code modifiers_at modifiers there low high =
    let same : s ≡ r = same_Some s r there in
    let low_here : s.first ≤ code = subst (λ (x : UnitRow). x.first ≤ code) (sym same) low in
    let high_here : code ≤ s.last = subst (λ (x : UnitRow). code ≤ x.last) (sym same) high in
    cond-true (leb s.first code && leb code s.last) _ _ (and_from (leb s.first code) (leb code s.last) (le-leb s.first code low_here)
    (le-leb code s.last high_here)) ∙ ap (λ (x : UnitRow). unit_by x code modifiers_at modifiers) same
counts_in next (s ∷ rows) up (suc place) r code modifiers_at modifiers there low high =
    let parts = and_parts (leb next s.first) (leb s.first s.last && ascends (s.last + 1) rows) up in
    let rest = and_parts (leb s.first s.last) (ascends (s.last + 1) rows) parts.1 in
    let after = row_from (s.last + 1) rows place r rest.1 there in
    cond-false (leb s.first code && leb code s.last) _ _ (and_right (leb s.first code) (leb code s.last)
    (lt-leb code s.last (omega arith))) ∙ counts_in (s.last + 1) rows rest.1 place r code modifiers_at modifiers there low high

pub each_row : (rows : List UnitRow) → ascends 0 rows ≡ true → EachRowCounts rows
each_row rows up = counts_in 0 rows up
