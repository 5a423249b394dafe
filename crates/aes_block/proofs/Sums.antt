-- Products in the field distribute over sums.
use Rattle.std.proofs.Common.{◌≡◌, ℕ, zero, suc, ◌+◌, ◌*◌, ◌/◌, ◌%◌, ◌^◌, ◌<◌, ◌⊎◌, inl, inr, refl, sym, ap, ◌∙◌, bit_xor, arith}
use Rattle.std.proofs.lemmas.Nat.{xor_shr, xor_mod, xor_block, xor_comm}
use lib.Bits.{xor_assoc, xor_self, xor_zero_r}
use Rattle.aes_block.specs.Field.{polynomial_product, remainder, product}

-- ---- sums
pub xor_swap : (p q r s : ℕ) → bit_xor (bit_xor p q) (bit_xor r s) ≡ bit_xor (bit_xor p r) (bit_xor q s)
xor_swap p q r s =
    xor_assoc p q (bit_xor r s)
    ∙ ap (bit_xor p) (sym (xor_assoc q r s) ∙ ap (λ x. bit_xor x s) (xor_comm q r) ∙ xor_assoc r q s)
    ∙ sym (xor_assoc p r (bit_xor q s))

pub double_of_sum : (x y : ℕ) → 2 * bit_xor x y ≡ bit_xor (2 * x) (2 * y)
double_of_sum x y =
    let block : bit_xor (x * 2 + 0) (y * 2 + 0) ≡ bit_xor x y * 2 + 0 = xor_block 1 x y 0 0 (omega arith) (omega arith) in
    let ex : x * 2 + 0 ≡ 2 * x = omega arith in
    let ey : y * 2 + 0 ≡ 2 * y = omega arith in
    let ez : bit_xor x y * 2 + 0 ≡ 2 * bit_xor x y = omega arith in
    sym ez ∙ sym block ∙ rw (ex, ey) refl

digit : (d : ℕ) → d < 2 → (d ≡ 0) ⊎ (d ≡ 1)
digit zero h = inl refl
digit (suc zero) h = inr refl
digit (suc (suc d)) h = absurd (omega arith)

digit_times_sum : (d x y : ℕ) → d < 2 → d * bit_xor x y ≡ bit_xor (d * x) (d * y)
digit_times_sum d x y h = elim (digit d h) [
  | inl e ↦ rw e (
      let a : 0 * bit_xor x y ≡ 0 = omega arith in let b : 0 * x ≡ 0 = omega arith in let c : 0 * y ≡ 0 = omega arith in rw (a, b, c) refl)
  | inr e ↦ rw e (
      let a : 1 * bit_xor x y ≡ bit_xor x y =
      omega arith in let b : 1 * x ≡ x = omega arith in let c : 1 * y ≡ y = omega arith in rw (a, b, c) refl)
]

sum_of_digits_times : (d e m : ℕ) → d < 2 → e < 2 → bit_xor d e * m ≡ bit_xor (d * m) (e * m)
sum_of_digits_times d e m hd he =
    let z : 0 * m ≡ 0 = omega arith in
    elim (digit d hd) [
      | inl ed ↦ elim (digit e he) [ inl ee ↦ rw (ed, ee, z) refl | inr ee ↦ rw (ed, ee, z) refl ]
      | inr ed ↦ elim (digit e he) [
        | inl ee ↦ rw (ed, ee, z) (sym (xor_zero_r (1 * m)))
        | inr ee ↦ rw (ed, ee) (z ∙ sym (xor_self (1 * m)))
      ]
    ]

polynomial_product_of_sum : (n a x y : ℕ)
    → polynomial_product n a (bit_xor x y) ≡ bit_xor (polynomial_product n a x) (polynomial_product n a y)
unfolding polynomial_product
polynomial_product_of_sum zero a x y = refl
polynomial_product_of_sum (suc n) a x y =
    let d : a % 2 < 2 = omega arith in
    rw (
      digit_times_sum (a % 2) x y d,
      polynomial_product_of_sum n (a / 2) x y,
      double_of_sum (polynomial_product n (a / 2) x) (polynomial_product n (a / 2) y),
    )
    (xor_swap (a % 2 * x) (a % 2 * y) (2 * polynomial_product n (a / 2) x) (2 * polynomial_product n (a / 2) y))

bit_of_sum : (p q k : ℕ) → bit_xor p q / 2 ^ k % 2 ≡ bit_xor (p / 2 ^ k % 2) (q / 2 ^ k % 2)
bit_of_sum p q k = ap (λ x. x % 2) (xor_shr p q k) ∙ xor_mod (p / 2 ^ k) (q / 2 ^ k) 1

remainder_of_sum : (n p q : ℕ) → remainder n (bit_xor p q) ≡ bit_xor (remainder n p) (remainder n q)
unfolding remainder
remainder_of_sum zero p q = refl
remainder_of_sum (suc n) p q =
    let m : ℕ = 0x11B * 2 ^ n in
    let dp : p / 2 ^ (8 + n) % 2 < 2 = omega arith in
    let dq : q / 2 ^ (8 + n) % 2 < 2 = omega arith in
    rw (
      bit_of_sum p q (8 + n),
      sum_of_digits_times (p / 2 ^ (8 + n) % 2) (q / 2 ^ (8 + n) % 2) m dp dq,
      xor_swap p q (p / 2 ^ (8 + n) % 2 * m) (q / 2 ^ (8 + n) % 2 * m),
    )
    (remainder_of_sum n (bit_xor p (p / 2 ^ (8 + n) % 2 * m)) (bit_xor q (q / 2 ^ (8 + n) % 2 * m)))

pub product_of_sum : (a x y : ℕ) → product a (bit_xor x y) ≡ bit_xor (product a x) (product a y)
unfolding product
product_of_sum a x y = rw (polynomial_product_of_sum 8 a x y) (remainder_of_sum 7 _ _)
