-- Long division leaves a remainder, and there is one remainder.
use Rattle.std.proofs.Common.{◌≡◌, ℕ, zero, suc, ◌+◌, ◌-◌, ◌*◌, ◌/◌, ◌%◌, ◌^◌, ◌<◌, ◌≤◌, List, [], ◌∷◌, ◌++◌, length, Bool, true, false, refl, sym, ◌∙◌, ap, subst, arith, bit_xor, fold, get_or, take, pow_pos, pow-add, add-one, inl, inr, lt-ltb, le-ltb}
use Rattle.std.proofs.Math.Nat.{mul_assoc, pow-suc}
use Rattle.std.proofs.Math.Seq.{take-suc}
use Rattle.std.proofs.lemmas.List.{take_all}
use Rattle.std.proofs.lemmas.List.Sums.{fold-append}
use Rattle.std.proofs.lemmas.Nat.{xor_comm, xor_lt}
use Rattle.std.proofs.lemmas.Bool.{cases_lt}
use Rattle.std.specs.Int.Bits.{xor_assoc, xor_self, xor_zero_l, xor_zero_r, xor_shifted}
use Rattle.frame_formats.specs.Crc.{product, generator, polynomial, remainder, IsMultiple, HasRemainder, IsBytes, IsCrc, crc_of, OneCrc}
use Rattle.frame_formats.proofs.Multiples.{none, itself, twice, sum, middle, scaled}

-- two polynomials differ by a multiple
pub record Near (a b : ℕ) : Type 0 where
  pub multiple : IsMultiple (bit_xor a b)

as_multiple : (a b : ℕ) → a ≡ b → IsMultiple b → IsMultiple a
as_multiple a b e m = let P : ℕ → Type 0 = λ x. IsMultiple x in subst P (sym e) m

pub near_same : (a b : ℕ) → a ≡ b → Near a b
near_same a b e = record { multiple = as_multiple _ _ (ap (λ x. bit_xor x b) e ∙ xor_self b) none }

-- what stands in both goes out
outer : (a b c : ℕ) → bit_xor (bit_xor a b) (bit_xor b c) ≡ bit_xor a c
outer a b c =
    ap (λ x. bit_xor (bit_xor a b) x) (xor_comm b c) ∙ middle a b c b ∙ ap (λ x. bit_xor (bit_xor a c) x) (xor_self b)
    ∙ xor_zero_r (bit_xor a c)

-- a sum less one of its parts
less : (a b : ℕ) → bit_xor a (bit_xor a b) ≡ b
less a b = sym (xor_assoc a a b) ∙ ap (λ x. bit_xor x b) (xor_self a) ∙ xor_zero_l b

pub near_trans : (a b c : ℕ) → Near a b → Near b c → Near a c
near_trans a b c m n = record { multiple = as_multiple _ _ (sym (outer a b c)) (sum _ _ m.multiple n.multiple) }

pub near_sym : (a b : ℕ) → Near a b → Near b a
near_sym a b m = record { multiple = as_multiple _ _ (xor_comm b a) m.multiple }

pub near_sum : (a b c d : ℕ) → Near a b → Near c d → Near (bit_xor a c) (bit_xor b d)
near_sum a b c d m n = record { multiple = as_multiple _ _ (middle a c b d) (sum _ _ m.multiple n.multiple) }

-- a multiple times x^k
multiple_scaled : (k p : ℕ) → IsMultiple p → IsMultiple (p * 2 ^ k)
multiple_scaled zero p m = as_multiple _ _ (omega arith) m
multiple_scaled (suc k) p m =
    as_multiple _ _ (ap (λ y. p * y) (pow-suc 2 k) ∙ sym (mul_assoc p (2 ^ k) 2)) (twice _ (multiple_scaled k p m))

pub near_scaled : (k a b : ℕ) → Near a b → Near (a * 2 ^ k) (b * 2 ^ k)
near_scaled k a b m = record { multiple = as_multiple _ _ (scaled a b k) (multiple_scaled k _ m.multiple) }

-- one step of the division
one_less : (k p : ℕ) → 2 ^ (16 + k) ≤ p → p < 2 ^ (17 + k) → bit_xor p (generator * 2 ^ k) < 2 ^ (16 + k)
one_less k p high low =
    let split : 2 ^ (16 + k) ≡ 2 ^ 16 * 2 ^ k = pow-add 2 16 k
    in let twice_split : 2 ^ (17 + k) ≡ 2 ^ 17 * 2 ^ k = pow-add 2 17 k
    in let n : ℕ = 16 + k
    in let rest : p - 2 ^ n < 2 ^ n = omega arith
    in let lower : 0x3D65 * 2 ^ k < 2 ^ n = omega (arith, split, pow_pos k)
    in let top : p ≡ bit_xor (1 * 2 ^ n) (p - 2 ^ n) = omega (arith, xor_shifted 1 n (p - 2 ^ n) rest)
    in let divisor : generator * 2 ^ k ≡ bit_xor (1 * 2 ^ n) (0x3D65 * 2 ^ k) = omega (arith, split, xor_shifted 1 n (0x3D65 * 2 ^ k) lower)
    in let gone : bit_xor p (generator * 2 ^ k) ≡ bit_xor (p - 2 ^ n) (0x3D65 * 2 ^ k) =
    ap (λ x. bit_xor x (generator * 2 ^ k)) top ∙ ap (λ x. bit_xor (bit_xor (1 * 2 ^ n) (p - 2 ^ n)) x) divisor
    ∙ middle (1 * 2 ^ n) (p - 2 ^ n) (1 * 2 ^ n) (0x3D65 * 2 ^ k)
    ∙ ap (λ x. bit_xor x (bit_xor (p - 2 ^ n) (0x3D65 * 2 ^ k))) (xor_self (1 * 2 ^ n)) ∙ xor_zero_l _
    in omega (arith, gone, xor_lt n _ _ rest lower)

pub remainder_near : (k p : ℕ) → p < 2 ^ (16 + k) → Near p (remainder k p) × (remainder k p < 2 ^ 16)
unfolding remainder
remainder_near zero p lt = (near_same p p refl, lt)
remainder_near (suc k) p lt = elim (cases_lt p (2 ^ (16 + k))) [
  | inl low ↦ rw (lt-ltb p (2 ^ (16 + k)) low) (remainder_near k p low)
  | inr high ↦
      let next : ℕ = bit_xor p (generator * 2 ^ k)
      in let more : 2 ^ (16 + suc k) ≡ 2 ^ (17 + k) = let same : 16 + suc k ≡ 17 + k = omega arith in ap (λ n. 2 ^ n) same
      in let rest = remainder_near k next (one_less k p high (omega arith))
      in let here : Near p next = record { multiple = as_multiple _ _ (less p (generator * 2 ^ k)) (multiple_scaled k generator itself) }
      in rw (le-ltb p (2 ^ (16 + k)) high) (near_trans p next _ here rest.0, rest.1)
]

one_longer : (q : List Bool) → 2 ^ (16 + suc (length q)) ≡ 2 ^ 17 * 2 ^ length q
one_longer q = let n : 16 + suc (length q) ≡ 17 + length q = omega arith in ap (λ n. 2 ^ n) n ∙ pow-add 2 17 (length q)

product_lt : (q : List Bool) → product q generator < 2 ^ (16 + length q)
unfolding product
product_lt [] = omega arith
product_lt (true ∷ q) =
    xor_lt (16 + suc (length q)) (generator * 2 ^ length q) (product q generator) (omega (arith, one_longer q, pow_pos (length q)))
    (omega (arith, one_longer q, product_lt q, pow-add 2 16 (length q)))
product_lt (false ∷ q) = omega (arith, one_longer q, product_lt q, pow-add 2 16 (length q), xor_zero_l (product q generator))

-- no multiple but 0 has a lower degree than the generator
product_low : (q : List Bool) → product q generator < 2 ^ 16 → product q generator ≡ 0
unfolding product
product_low [] low = refl
product_low (true ∷ q) low =
    let k : ℕ = 16 + length q
    in let split : 2 ^ k ≡ 2 ^ 16 * 2 ^ length q = pow-add 2 16 (length q)
    in let rest : 0x3D65 * 2 ^ length q < 2 ^ k = omega (arith, split, pow_pos (length q))
    in let top : generator * 2 ^ length q ≡ bit_xor (1 * 2 ^ k) (0x3D65 * 2 ^ length q) =
    omega (arith, split, xor_shifted 1 k (0x3D65 * 2 ^ length q) rest)
    in let all : product (true ∷ q) generator ≡ 1 * 2 ^ k + bit_xor (0x3D65 * 2 ^ length q) (product q generator) =
    ap (λ x. bit_xor x (product q generator)) top ∙ xor_assoc (1 * 2 ^ k) (0x3D65 * 2 ^ length q) (product q generator)
    ∙ xor_shifted 1 k (bit_xor (0x3D65 * 2 ^ length q) (product q generator)) (xor_lt k _ _ rest (product_lt q))
    in absurd (omega (arith, all, split, pow_pos (length q)))
product_low (false ∷ q) low = xor_zero_l (product q generator) ∙ product_low q (omega (arith, xor_zero_l (product q generator)))

-- two remainders of one polynomial are the same
pub one_remainder : (p r s : ℕ) → HasRemainder p r → HasRemainder p s → r ≡ s
one_remainder p r s m n =
    let near : Near r s = near_trans r p s (near_sym p r (record { multiple = m.multiple })) (record { multiple = n.multiple })
    in let low : bit_xor r s < 2 ^ 16 = xor_lt 16 r s m.lower n.lower
    in let zero_sum : bit_xor r s ≡ 0 = near.multiple.whole ∙ product_low near.multiple.quotient (omega (arith, near.multiple.whole))
    in sym (xor_zero_r r) ∙ ap (λ x. bit_xor r x) (sym zero_sum) ∙ less r s

-- so many bytes are a polynomial of so many coefficients
fold_lt : (bytes : List ℕ) (p n : ℕ) → IsBytes bytes → p < 2 ^ n → fold (λ p byte. p * 256 + byte) p bytes < 2 ^ (n + 8 * length bytes)
fold_lt [] p n all lt = let P : ℕ → Type 0 = λ m. p < 2 ^ m in let same : n ≡ n + 0 = omega arith in subst P same lt
fold_lt (b ∷ bytes) p n all lt =
    let P : ℕ → Type 0 = λ m. fold (λ p byte. p * 256 + byte) (p * 256 + b) bytes < 2 ^ m
    in let same : n + 8 + 8 * length bytes ≡ n + 8 * suc (length bytes) = omega arith
    in subst P same (fold_lt bytes (p * 256 + b) (n + 8) all.1 (omega (arith, pow-add 2 n 8, all.0)))

polynomial_lt : (bytes : List ℕ) → IsBytes bytes → polynomial bytes * 2 ^ 16 < 2 ^ (16 + 8 * length bytes)
polynomial_lt bytes all =
    let n : ℕ = 8 * length bytes
    in let from_zero : 2 ^ (0 + n) ≡ 2 ^ n = let same : 0 + n ≡ n = omega arith in ap (λ m. 2 ^ m) same
    in omega (arith, fold_lt bytes 0 0 all (omega arith), pow-add 2 16 n, from_zero)

-- long division gives the CRC
pub is_crc : (bytes : List ℕ) → IsBytes bytes → IsCrc bytes (crc_of bytes)
unfolding crc_of
is_crc bytes all =
    let divided = remainder_near (8 * length bytes) (polynomial bytes * 2 ^ 16) (polynomial_lt bytes all)
    in record {
      left = remainder (8 * length bytes) (polynomial bytes * 2 ^ 16);
      division = record { multiple = divided.0.multiple; lower = divided.1 };
      complement = omega (arith, divided.1);
    }

-- and no other number is one
pub same_crc : (bytes : List ℕ) (c d : ℕ) → IsCrc bytes c → IsCrc bytes d → c ≡ d
same_crc bytes c d is too = omega (arith, is.complement, too.complement, one_remainder _ _ _ is.division too.division)

pub one_crc : OneCrc
one_crc bytes all = (is_crc bytes all, λ c is. same_crc bytes c (crc_of bytes) is (is_crc bytes all))

-- what is a byte at each place
pub each_byte : (bytes : List ℕ) → ((k : ℕ) → get_or bytes k 0 < 256) → IsBytes bytes
each_byte [] f = tt
each_byte (b ∷ bytes) f = (f 0, each_byte bytes (λ k. f (suc k)))

-- the remainder of a sum of two polynomials of which one has a low degree
pub near_byte : (p r b t : ℕ) → HasRemainder (p * 2 ^ 16) r → b < 256 → t ≡ remainder 8 (bit_xor (r / 256) b * 2 ^ 16)
    → HasRemainder ((p * 256 + b) * 2 ^ 16) (bit_xor (r * 256 % 2 ^ 16) t)
near_byte p r b t is byte table =
    let hi : ℕ = r / 256
    in let lo : ℕ = r * 256 % 2 ^ 16
    in let high : hi < 256 = omega (arith, is.lower)
    in let index : bit_xor hi b < 2 ^ 8 = xor_lt 8 hi b (omega arith) (omega arith)
    in let divided : Near (bit_xor hi b * 2 ^ 16) (remainder 8 (bit_xor hi b * 2 ^ 16)) × (remainder 8 (bit_xor hi b * 2 ^ 16) < 2 ^ 16) =
    remainder_near 8 (bit_xor hi b * 2 ^ 16) (omega arith)
    in let apart : (p * 256 + b) * 2 ^ 16 ≡ p * 2 ^ 24 + b * 2 ^ 16 = omega arith
    in let shifted : p * 2 ^ 24 ≡ p * 2 ^ 16 * 2 ^ 8 = omega arith
    in let spread : (p * 256 + b) * 2 ^ 16 ≡ bit_xor (p * 2 ^ 16 * 2 ^ 8) (b * 2 ^ 16) =
    apart ∙ sym (xor_shifted p 24 (b * 2 ^ 16) (omega arith)) ∙ ap (λ x. bit_xor x (b * 2 ^ 16)) shifted
    in let parts : r * 2 ^ 8 ≡ bit_xor (hi * 2 ^ 16) lo =
    let cut : r * 2 ^ 8 ≡ hi * 2 ^ 16 + lo = omega (arith, is.lower) in cut ∙ sym (xor_shifted hi 16 lo (omega arith))
    in let gathered : bit_xor (r * 2 ^ 8) (b * 2 ^ 16) ≡ bit_xor (bit_xor hi b * 2 ^ 16) lo =
    ap (λ x. bit_xor x (b * 2 ^ 16)) parts ∙ xor_assoc (hi * 2 ^ 16) lo (b * 2 ^ 16)
    ∙ ap (λ x. bit_xor (hi * 2 ^ 16) x) (xor_comm lo (b * 2 ^ 16))
    ∙ sym (xor_assoc (hi * 2 ^ 16) (b * 2 ^ 16) lo) ∙ ap (λ x. bit_xor x lo) (scaled hi b 16)
    in let before : Near (p * 2 ^ 16) r = record { multiple = is.multiple }
    in let same : Near (b * 2 ^ 16) (b * 2 ^ 16) = near_same _ _ refl
    in let same_low : Near lo lo = near_same _ _ refl
    in let near : Near ((p * 256 + b) * 2 ^ 16) (bit_xor lo t) =
    near_trans _ _ _ (near_same _ _ spread)
    (near_trans _ _ _ (near_sum _ _ _ _ (near_scaled 8 _ _ before) same)
    (near_trans _ _ _ (near_same _ _ gathered)
    (near_trans _ _ _ (near_sum _ _ _ _ divided.0 same_low) (near_same _ _ (xor_comm _ lo ∙ ap (λ x. bit_xor lo x) (sym table))))))
    in record { multiple = near.multiple; lower = xor_lt 16 lo t (omega arith) (omega (arith, divided.1)) }

-- no byte has the polynomial 0
pub nothing_left : HasRemainder (polynomial [] * 2 ^ 16) 0
nothing_left = record { multiple = none; lower = omega arith }

-- where all bytes went through
pub all_through : (bytes : List ℕ) (i r : ℕ) → length bytes ≤ i → HasRemainder (polynomial (take i bytes) * 2 ^ 16) r
    → IsCrc bytes (2 ^ 16 - 1 - r)
all_through bytes i r end is =
    let P : List ℕ → Type 0 = λ x. HasRemainder (polynomial x * 2 ^ 16) r
    in record { left = r; division = subst P (take_all i bytes end) is; complement = omega (arith, is.lower) }

-- one more byte
pub one_more : (bytes : List ℕ) (i s : ℕ) → i < length bytes
    → HasRemainder ((polynomial (take i bytes) * 256 + get_or bytes i 0) * 2 ^ 16) s
    → HasRemainder (polynomial (take (i + 1) bytes) * 2 ^ 16) s
one_more bytes i s more is =
    let P : ℕ → Type 0 = λ x. HasRemainder (x * 2 ^ 16) s
    in let longer : take (i + 1) bytes ≡ take i bytes ++ get_or bytes i 0 ∷ [] =
    ap (λ n. take n bytes) (add-one i) ∙ take-suc bytes i 0 more
    in subst P (sym (ap polynomial longer ∙ fold-append (λ p byte. p * 256 + byte) 0 (take i bytes) (get_or bytes i 0 ∷ []))) is
