-- A product in the field is what is left of the product of the polynomials.
use Rattle.std.proofs.Common.{◌≡◌, ℕ, zero, suc, ◌+◌, ◌*◌, ◌/◌, ◌%◌, ◌^◌, ◌<◌, ◌≤◌, refl, sym, ap, ◌∙◌, bit_xor, arith}
use Rattle.std.proofs.Math.Nat.{pow-suc, mul-le-mul_left}
use Rattle.std.proofs.lemmas.Nat.{xor_comm}
use lib.Bits.{xor_assoc, xor_self, xor_zero_r}
use Rattle.aes_block.proofs.Sums.{double_of_sum}
use Rattle.aes_block.proofs.Elements.{product-lt}
use Rattle.aes_block.specs.Field.{modulus, polynomial_product, remainder, product}
use Rattle.aes_block.specs.Laws.{ProductIsRemainder}

-- one coefficient more of the first factor, at the top
one_more : (n q d m : ℕ) → q < 2 ^ n → d < 2 →
    polynomial_product (suc n) (q + d * 2 ^ n) m ≡ bit_xor (polynomial_product n q m) (d * (m * 2 ^ n))
unfolding polynomial_product
one_more zero q d m hq hd =
    let none : q ≡ 0 = omega arith in
    let digit : (q + d * 1) % 2 ≡ d = omega arith in
    let once : m * 1 ≡ m = omega arith in
    rw (digit, once) (xor_zero_r (d * m))
one_more (suc n) q d m hq hd =
    let power : 2 ^ suc n ≡ 2 ^ n * 2 = pow-suc 2 n in
    let top : d * 2 ^ suc n ≡ 2 * (d * 2 ^ n) = rw power (omega arith) in
    let low : (q + d * 2 ^ suc n) % 2 ≡ q % 2 = omega (arith, top) in
    let high : (q + d * 2 ^ suc n) / 2 ≡ q / 2 + d * 2 ^ n = omega (arith, top) in
    let half : q / 2 < 2 ^ n = omega (arith, power) in
    let twice : 2 * (d * (m * 2 ^ n)) ≡ d * (m * 2 ^ suc n) = rw power (omega arith) in
    rw (low, high, one_more n (q / 2) d m half hd, double_of_sum (polynomial_product n (q / 2) m) (d * (m * 2 ^ n)), twice)
    (sym (xor_assoc (q % 2 * m) (2 * polynomial_product n (q / 2) m) (d * (m * 2 ^ suc n))))

trivial : (p : ℕ) → p ≡ bit_xor (polynomial_product 0 0 modulus) p
unfolding polynomial_product
trivial p = refl

-- long division takes away a multiple of the modulus
divided : (n p : ℕ) → (q : ℕ) × (q < 2 ^ n) × (p ≡ bit_xor (polynomial_product n q modulus) (remainder n p))
unfolding remainder
divided zero p = (0, omega arith, trivial p)
divided (suc n) p =
    let d : ℕ = p / 2 ^ (8 + n) % 2 in
    let m : ℕ = d * (modulus * 2 ^ n) in
    let below = divided n (bit_xor p m) in
    let q : ℕ = polynomial_product n below.0 modulus in
    let r : ℕ = remainder n (bit_xor p m) in
    let digit : d < 2 = omega arith in
    let least : d ≤ 1 = omega arith in
    let power : 2 ^ suc n ≡ 2 ^ n * 2 = pow-suc 2 n in
    let bound : 2 ^ n * d ≤ 2 ^ n * 1 = mul-le-mul_left (2 ^ n) least in
    let quotient : below.0 + d * 2 ^ n < 2 ^ suc n = omega (arith, below.1) in (
      below.0 + d * 2 ^ n,
      quotient,
      sym (xor_assoc p m m ∙ ap (bit_xor p) (xor_self m) ∙ xor_zero_r p)
          ∙ ap (λ x. bit_xor x m) below.2
          ∙ xor_assoc q r m ∙ ap (bit_xor q) (xor_comm r m) ∙ sym (xor_assoc q m r)
          ∙ ap (λ x. bit_xor x r) (sym (one_more n below.0 d modulus below.1 digit)),
    )

pub product_is_remainder : ProductIsRemainder
unfolding product
product_is_remainder a b ha hb =
    let d = divided 7 (polynomial_product 8 a b) in
    record { element = product-lt a b ha hb; multiple = (d.0, d.2) }
