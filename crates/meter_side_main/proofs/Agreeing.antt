-- How far two lists agree.
use Rattle.std.proofs.Common.{◌≡◌, ◌≢◌, ℕ, zero, suc, ◌+◌, ◌<◌, ◌≤◌, eqb, Bool, true, false, cond, List, [], ◌∷◌, ◌++◌, length, take, get_or, refl, sym, ap₂, ◌∙◌, arith, eq-eqb}
use Rattle.std.proofs.lemmas.Bool.{eqb-true, ne_eqb}
use Rattle.meter_side_main.specs.Reading.{agreeing}

pub agreeing-cases : (x y : ℕ) (xs ys : List ℕ) (b : Bool) → eqb x y ≡ b → agreeing (x ∷ xs) (y ∷ ys) ≡ cond b (1 + agreeing xs ys) 0
unfolding agreeing
agreeing-cases x y xs ys b e = rw e refl

pub agreeing-nil : (ys : List ℕ) → agreeing [] ys ≡ 0
unfolding agreeing
agreeing-nil ys = refl

-- up to the first place at which they differ, or to the end of the first
pub agreeing_to : (want have : List ℕ) (p : ℕ) → p ≤ length want → length want ≤ length have
    → ((k : ℕ) → k < p → get_or want k 0 ≡ get_or have k 0)
    → (p < length want → get_or want p 0 ≢ get_or have p 0) → agreeing want have ≡ p
agreeing_to [] have p h long same other = agreeing-nil have ∙ omega (arith, h)
agreeing_to (x ∷ xs) [] p h long same other = absurd (omega arith)
agreeing_to (x ∷ xs) (y ∷ ys) zero h long same other = agreeing-cases x y xs ys false (ne_eqb x y (other (omega arith)))
agreeing_to (x ∷ xs) (y ∷ ys) (suc p) h long same other =
    let rest : agreeing xs ys ≡ p =
    agreeing_to xs ys p (omega arith) (omega arith) (λ k l. same (suc k) (omega arith)) (λ l. other (omega arith)) in
    agreeing-cases x y xs ys true (eq-eqb x y (same zero (omega arith))) ∙ omega (arith, rest)

agreeing-end : (x : ℕ) (xs : List ℕ) → agreeing (x ∷ xs) [] ≡ 0
unfolding agreeing
agreeing-end x xs = refl

-- a list with which all of another agrees begins with it
pub agreed : (want have : List ℕ) → agreeing want have ≡ length want → take (length want) have ≡ want
agreed [] have h = refl
agreed (x ∷ xs) [] h = let none : agreeing (x ∷ xs) [] ≡ 0 = agreeing-end x xs in absurd (omega (arith, none, h))
agreed (x ∷ xs) (y ∷ ys) h = by_test (eqb x y) (λ g. agreed xs ys g) refl where
  by_test : (b : Bool) → (agreeing xs ys ≡ length xs → take (length xs) ys ≡ xs) → eqb x y ≡ b → take (length (x ∷ xs)) (y ∷ ys) ≡ x ∷ xs
  by_test true rest e =
      let more : agreeing (x ∷ xs) (y ∷ ys) ≡ 1 + agreeing xs ys = agreeing-cases x y xs ys true e in
      ap₂ (λ (z : ℕ) (zs : List ℕ). z ∷ zs) (sym (eqb-true x y e)) (rest (omega (arith, more, h)))
  by_test false rest e =
      let none : agreeing (x ∷ xs) (y ∷ ys) ≡ 0 = agreeing-cases x y xs ys false e in
      absurd (omega (arith, none, h))

-- what is put behind a list makes no difference
pub agreeing-append : (want rest : List ℕ) → agreeing want (want ++ rest) ≡ length want
agreeing-append [] rest = agreeing-nil rest
agreeing-append (x ∷ xs) rest = let e : agreeing xs (xs ++ rest) ≡ length xs = agreeing-append xs rest in
    agreeing-cases x x xs (xs ++ rest) true (eq-eqb x x refl) ∙ omega (arith, e)
