-- The CRC of a block (EN 13757-4): a remainder of polynomials over two elements. A polynomial is the number whose bit i is
-- the coefficient of x^i, and the sum of two is `bit_xor`.
use Rattle.std.specs.Prelude.{ℕ, ◌≡◌, ◌+◌, ◌-◌, ◌*◌, ◌^◌, ◌<◌, zero, suc, nat_lt, if◌then◌else◌, List, [], ◌∷◌, length, Bool, fold, bit_xor}

-- bytes as a polynomial, the highest bit of the first byte first
abbrev pub polynomial : List ℕ → ℕ
polynomial bytes = fold (λ p byte. p * 256 + byte) 0 bytes

-- x^16 + 0x3D65
abbrev pub generator : ℕ
generator = 0x13D65

-- q times g: the sum of g times x^i over the places i at which q, its highest coefficient first, has a one
unfoldable pub product : List Bool → ℕ → ℕ
product [] g = 0
product (b ∷ q) g = bit_xor (if b then g * 2 ^ length q else 0) (product q g)

-- p is a multiple of the generator
pub record IsMultiple (p : ℕ) : Type 0 where
  pub quotient : List Bool
  pub whole : p ≡ product quotient generator

-- p less r is a multiple of the generator, and r has a lower degree
pub record HasRemainder (p r : ℕ) : Type 0 where
  pub multiple : IsMultiple (bit_xor p r)
  pub lower : r < 2 ^ 16

-- c is the complement of the remainder of the bytes times x^16
pub record IsCrc (bytes : List ℕ) (c : ℕ) : Type 0 where
  pub left : ℕ
  pub division : HasRemainder (polynomial bytes * 2 ^ 16) left
  pub complement : c + left ≡ 2 ^ 16 - 1

-- each is a byte
abbrev pub IsBytes : List ℕ → Type 0
IsBytes [] = Unit {0}
IsBytes (b ∷ bytes) = (b < 256) × IsBytes bytes

-- the remainder by long division, of a polynomial with k coefficients from x^16 on
unfoldable pub remainder : ℕ → ℕ → ℕ
remainder zero p = p
remainder (suc k) p = remainder k (if nat_lt p (2 ^ (16 + k)) then p else bit_xor p (generator * 2 ^ k))

-- the one CRC of the bytes
unfoldable pub crc_of : List ℕ → ℕ
crc_of bytes = 2 ^ 16 - 1 - remainder (8 * length bytes) (polynomial bytes * 2 ^ 16)

-- every block of bytes has one CRC, which long division computes
abbrev pub OneCrc : Type 0
OneCrc = (bytes : List ℕ) → IsBytes bytes → IsCrc bytes (crc_of bytes) × ((c : ℕ) → IsCrc bytes c → c ≡ crc_of bytes)
