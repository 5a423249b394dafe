-- The field GF(2^8) and the substitution of its elements (FIPS 197 of 2001, sections 4 and 5.1.1). A number stands for
-- the polynomial over two elements that has its bits as coefficients, bit i at x^i: the sum of two polynomials is
-- `bit_xor` of their numbers, and x^i times one is 2^i times its number. A byte is an element of the field.
use Rattle.std.specs.Prelude.{ℕ, zero, suc, ◌+◌, ◌*◌, ◌/◌, ◌%◌, ◌^◌, ◌==◌, if◌then◌else◌, bit_xor, sum_by}
use Rattle.std.specs.List.{range_with_len}

-- x^8 + x^4 + x^3 + x + 1 (4.2)
abbrev pub modulus : ℕ
modulus = 0x11B

-- the product of the polynomials b and a, of which the lowest n coefficients count
unfoldable pub polynomial_product : ℕ → ℕ → ℕ → ℕ
polynomial_product zero a b = 0
polynomial_product (suc n) a b = bit_xor (a % 2 * b) (2 * polynomial_product n (a / 2) b)

-- what is left of a polynomial of a degree below 8 + n by long division: from the highest coefficient on, that
-- many times the modulus is taken away
unfoldable pub remainder : ℕ → ℕ → ℕ
remainder zero p = p
remainder (suc n) p = remainder n (bit_xor p (p / 2 ^ (8 + n) % 2 * (modulus * 2 ^ n)))

-- the product in the field (4.2)
unfoldable pub product : ℕ → ℕ → ℕ
product a b = remainder 7 (polynomial_product 8 a b)

-- the greatest element from 1 to n whose product with a is 1, and 0 where there is none
unfoldable pub inverse_up_to : ℕ → ℕ → ℕ
inverse_up_to zero a = 0
inverse_up_to (suc n) a = if product a (suc n) == 1 then suc n else inverse_up_to n a

-- the inverse in the field (4.2), and 0 for 0
unfoldable pub inverse : ℕ → ℕ
inverse a = inverse_up_to 255 a

-- bit i of a byte, where the bits are counted modulo 8
abbrev pub bit : ℕ → ℕ → ℕ
bit b i = b / 2 ^ (i % 8) % 2

-- the byte whose bit i is f i
abbrev pub byte_of_bits : (ℕ → ℕ) → ℕ
byte_of_bits f = sum_by (λ i. f i * 2 ^ i) (range_with_len 0 8)

-- the affine map: each bit is the sum of five bits and of its bit of 0x63 (5.1.1)
unfoldable pub affine : ℕ → ℕ
affine b = byte_of_bits (λ i. (bit b i + bit b (i + 4) + bit b (i + 5) + bit b (i + 6) + bit b (i + 7) + bit 0x63 i) % 2)

-- the affine map back: each bit is the sum of three bits and of its bit of 0x05 (5.3.2)
unfoldable pub inverse_affine : ℕ → ℕ
inverse_affine b = byte_of_bits (λ i. (bit b (i + 2) + bit b (i + 5) + bit b (i + 7) + bit 0x05 i) % 2)

-- the substitution: the inverse, and then the affine map (5.1.1)
unfoldable pub substitute : ℕ → ℕ
substitute a = affine (inverse a)

-- the inverse substitution (5.3.2)
unfoldable pub inverse_substitute : ℕ → ℕ
inverse_substitute b = inverse (inverse_affine b)
