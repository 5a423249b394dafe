-- What is heard are the same lines, in another order.
use Rattle.std.proofs.Common.{ℕ, ◌%◌, List, [], ◌∷◌, ◌++◌, length, take, drop, subst}
use Rattle.std.specs.List.Sorted.{IsPermutation}
use Rattle.std.proofs.lemmas.List.{take-append-drop}
use Rattle.std.proofs.lemmas.List.Sorted.{IsPermutation-refl, IsPermutation-trans, IsPermutation-append_comm, IsPermutation-append_left}
use Rattle.std.proofs.lemmas.List.Sorted.{IsPermutation-append_right}
use Rattle.made_input.specs.Lines.{rotated, heard}
use Rattle.made_input.specs.Laws.{HeardInAnotherOrder}

a_rotation : {A : Type 0} (by : ℕ) (group : List A) → IsPermutation group (rotated by group)
a_rotation by group =
    let place = by % length group in
    subst (λ xs. IsPermutation xs (rotated by group)) (take-append-drop place group)
    (IsPermutation-append_comm (take place group) (drop place group))

another_order : {A : Type 0} (by : ℕ) (lines : List A) → IsPermutation lines (heard by lines)
unfolding heard
another_order by [] = IsPermutation-refl []
another_order by (a ∷ []) = a_rotation by (a ∷ [])
another_order by (a ∷ b ∷ []) = a_rotation by (a ∷ b ∷ [])
another_order by (a ∷ b ∷ c ∷ []) = a_rotation by (a ∷ b ∷ c ∷ [])
another_order {A} by (a ∷ b ∷ c ∷ d ∷ later) =
    let four : List A = a ∷ b ∷ c ∷ d ∷ [] in
    IsPermutation-trans (four ++ later) (rotated by four ++ later) (rotated by four ++ heard by later)
    (IsPermutation-append_left later four (rotated by four) (a_rotation by four))
    (IsPermutation-append_right (rotated by four) later (heard by later) (another_order by later))

pub heard_in_another_order : HeardInAnotherOrder
heard_in_another_order by lines = another_order by lines
