-- What a computation over all elements shows of products and inverses. Since a product distributes over sums, each element and the
-- eight powers of x are enough, in place of all pairs of elements.
use Rattle.std.proofs.Common.{◌≡◌, ℕ, zero, suc, ◌+◌, ◌-◌, ◌*◌, ◌^◌, ◌<◌, ◌≤◌, ◌==◌, ◌&&◌, Bool, true, false, cond, get_or, refl, eqb, ltb, sym, ap, ap₂, subst, ◌∙◌, inl, inr, bit_xor, arith}
use Rattle.std.proofs.Math.Nat.{pow-suc}
use Rattle.std.proofs.lemmas.Nat.{xor_lt}
use Rattle.std.proofs.lemmas.Bool.{cases_eq, cases_lt, ltb-true, and_parts, eqb-true, eq-eqb, ne_eqb, cond-false}
use lib.Bits.{xor_self, xor_shifted}
use Rattle.aes_block.proofs.Bytes.{holds_below, at_each_below}
use Rattle.aes_block.proofs.Sums.{product_of_sum}
use Rattle.aes_block.specs.Field.{product, inverse, inverse_up_to, polynomial_product, remainder, inverse_affine}
use Rattle.aes_block.specs.Laws.{IsTheInverse, InverseIsTheInverse}
use Rattle.aes_block.specs.declared.tables.TheConstants.{SUBSTITUTION}

-- the inverse of an element, by the table of the substitution
unfoldable pub looked_up : ℕ → ℕ
looked_up a = inverse_affine (get_or SUBSTITUTION a 0)

-- p, which is a times x, is an element, and unless a is 0, i times p is x
unfoldable undone : ℕ → ℕ → ℕ → ℕ → Bool
undone a i x p = ltb p 256 && cond (a == 0) true (product i p == x)

-- i is an element; a times i is 1 unless a is 0; and i undoes a at the powers of x
unfoldable row_fits : ℕ → ℕ → Bool
row_fits a i =
    ltb i 256
    && (cond (a == 0) true (product a i == 1) && holds_below 8 (λ k. undone a i (2 ^ k) (product a (2 ^ k))))

each_row_fits : holds_below 256 (λ a. row_fits a (looked_up a)) ≡ true
unfolding undone row_fits looked_up inverse_affine product polynomial_product remainder
each_row_fits = refl

row_at : (a : ℕ) → a < 256 → row_fits a (looked_up a) ≡ true
row_at = at_each_below 256 (λ a. row_fits a (looked_up a)) each_row_fits

power_at : (a k : ℕ) → a < 256 → k < 8 →
    (ltb (product a (2 ^ k)) 256 ≡ true) × (cond (a == 0) true (product (looked_up a) (product a (2 ^ k)) == 2 ^ k) ≡ true)
unfolding undone row_fits
power_at a k ha hk =
    and_parts _ _ (at_each_below 8 (λ k. undone a (looked_up a) (2 ^ k) (product a (2 ^ k)))
    (and_parts _ _ (and_parts _ _ (row_at a ha)).1).1 k hk)

-- what holds of 0 and of the powers of x, and of a sum where it holds of both parts, holds of each element
spanned : (P : ℕ → Type 0) → P 0 → ((k : ℕ) → k < 8 → P (2 ^ k)) → ((x y : ℕ) → P x → P y → P (bit_xor x y))
    → (n b : ℕ) → n ≤ 8 → b < 2 ^ n → P b
spanned P none each sum zero b le lt = let is : 0 ≡ b = omega arith in subst P is none
spanned P none each sum (suc n) b le lt = elim (cases_lt b (2 ^ n)) [
  | inl low ↦ spanned P none each sum n b (omega arith) low
  | inr high ↦
      let power : 2 ^ suc n ≡ 2 ^ n * 2 = pow-suc 2 n in
      let rest : b - 2 ^ n < 2 ^ n = omega (arith, power) in
      let once : 2 ^ n ≡ 1 * 2 ^ n = omega arith in
      let whole : 1 * 2 ^ n + (b - 2 ^ n) ≡ b = omega arith in
      let is : bit_xor (2 ^ n) (b - 2 ^ n) ≡ b =
      ap (λ x. bit_xor x (b - 2 ^ n)) once ∙ xor_shifted 1 n (b - 2 ^ n) rest ∙ whole in
      subst P is (sum (2 ^ n) (b - 2 ^ n) (each n (omega arith)) (spanned P none each sum n (b - 2 ^ n) (omega arith) rest))
]

product_of_zero : (a : ℕ) → product a 0 ≡ 0
product_of_zero a = product_of_sum a 0 0 ∙ xor_self (product a 0)

pub product-lt : (a b : ℕ) → a < 256 → b < 256 → product a b < 256
product-lt a b ha hb =
    let P : ℕ → Type 0 = λ b. product a b < 256 in
    spanned P (omega (arith, product_of_zero a)) (λ k hk. ltb-true _ _ (power_at a k ha hk).0)
    (λ x y hx hy. omega (arith, product_of_sum a x y, xor_lt 8 (product a x) (product a y) hx hy)) 8 b (omega arith) hb

not_zero : (a : ℕ) → 0 < a → eqb a 0 ≡ false
not_zero a above = ne_eqb a 0 (λ e. omega arith)

-- a second product takes the first one back
taken_back : (a : ℕ) → 0 < a → a < 256 → (b : ℕ) → b < 256 → product (looked_up a) (product a b) ≡ b
taken_back a above h b hb =
    let i : ℕ = looked_up a in
    let P : ℕ → Type 0 = λ b. product i (product a b) ≡ b in
    spanned P (ap (product i) (product_of_zero a) ∙ product_of_zero i)
    (λ k hk. eqb-true _ _ (sym (cond-false _ _ _ (not_zero a above)) ∙ (power_at a k h hk).1))
    (λ x y hx hy. ap (product i) (product_of_sum a x y) ∙ product_of_sum i (product a x) (product a y) ∙ ap₂ bit_xor hx hy)
    8 b (omega arith) hb

looked_up_is : (a : ℕ) → 0 < a → a < 256 → IsTheInverse a (looked_up a)
unfolding row_fits
looked_up_is a above h =
    let i : ℕ = looked_up a in
    let parts = and_parts _ _ (row_at a h) in
    let element : i < 256 = ltb-true _ _ parts.0 in
    let one : product a i ≡ 1 = eqb-true _ _ (sym (cond-false _ _ _ (not_zero a above)) ∙ (and_parts _ _ parts.1).0) in
    let own : product i 1 ≡ i = ap (product i) (sym one) ∙ taken_back a above h i element in
    record { element = element; one = one; only = λ b hb e. sym (taken_back a above h b hb) ∙ ap (product i) e ∙ own }

-- the search from n downwards finds the inverse
found_from : (a i n : ℕ) → IsTheInverse a i → i ≤ n → n < 256 → inverse_up_to n a ≡ i
unfolding inverse_up_to
found_from a i zero is le lt = omega arith
found_from a i (suc n) is le lt = elim (cases_eq (product a (suc n)) 1) [
  | inl here ↦ rw (eq-eqb _ _ here) (is.only (suc n) lt here)
  | inr other ↦ elim (cases_lt n i) [
    | inl above ↦ let top : i ≡ suc n = omega arith in absurd (other (ap (product a) (sym top) ∙ is.one))
    | inr below ↦ rw (ne_eqb _ _ other) (found_from a i n is below (omega arith))
  ]
]

zero_has_none : inverse 0 ≡ looked_up 0
unfolding inverse inverse_up_to looked_up inverse_affine product polynomial_product remainder
zero_has_none = refl

pub inverse_looked_up : (a : ℕ) → a < 256 → inverse a ≡ looked_up a
unfolding inverse
inverse_looked_up zero h = zero_has_none
inverse_looked_up (suc a) h =
    let is : IsTheInverse (suc a) (looked_up (suc a)) = looked_up_is (suc a) (omega arith) h in
    let below : looked_up (suc a) < 256 = is.element in
    found_from (suc a) (looked_up (suc a)) 255 is (omega arith) (omega arith)

pub inverse_is_the_inverse : InverseIsTheInverse
inverse_is_the_inverse a above h = subst (IsTheInverse a) (sym (inverse_looked_up a h)) (looked_up_is a above h)
