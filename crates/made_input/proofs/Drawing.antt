-- States and draws, one after another.
use Rattle.std.proofs.Common.{◌≡◌, ℕ, suc, ◌+◌, List, [], ◌∷◌, ◌++◌, length, slice_index_or, ◌∙◌, refl, arith}
use Rattle.aes_block.proofs.Lists.{at_four}
use Rattle.made_input.specs.Draws.{next_state, state_after}

-- the state after one draw more
pub stepped : (number n m old new : ℕ) → new ≡ next_state old → old ≡ state_after n number → m ≡ n + 1 → new ≡ state_after m number
unfolding state_after
stepped number n m old new is at more = let one : m ≡ suc n = omega arith in rw (is, at, one) refl

-- the elements of a list of four, and of four such lists, one behind the other
abbrev pub elements : List ℕ → List ℕ
elements a = slice_index_or a 0 0 ∷ slice_index_or a 1 0 ∷ slice_index_or a 2 0 ∷ slice_index_or a 3 0 ∷ []

split : (a b : List ℕ) → length a ≡ 4 → a ≡ b → elements a ≡ b
split a b four is = at_four (λ a. elements a ≡ a) (λ a b c d. refl) a four ∙ is

pub sixteen : (a b c d x y z w : List ℕ) → length a ≡ 4 → length b ≡ 4 → length c ≡ 4 → length d ≡ 4 → a ≡ x → b ≡ y → c ≡ z → d ≡ w
    → elements a ++ elements b ++ elements c ++ elements d ≡ x ++ y ++ z ++ w
sixteen a b c d x y z w la lb lc ld ax by cz dw =
    rw (← split a x la ax, ← split b y lb by, ← split c z lc cz, ← split d w ld dw) refl
