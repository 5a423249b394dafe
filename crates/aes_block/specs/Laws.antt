-- What holds of the definitions themselves.
use Rattle.std.specs.Prelude.{◌≡◌, ℕ, ◌+◌, ◌/◌, ◌%◌, ◌<◌, ◌==◌, List, bit_xor, if◌then◌else◌}
use Rattle.aes_block.specs.Field.{modulus, polynomial_product, product, inverse, substitute, inverse_substitute}
use Rattle.aes_block.specs.Block.{IsBlock, add, turned_word, schedule_word, sub_bytes, inverse_sub_bytes, shift_rows, inverse_shift_rows, mix_columns, inverse_mix_columns, encrypt, decrypt}

-- r is what is left of the polynomial p: an element that differs from p by a multiple of the modulus
pub record IsRemainder (p r : ℕ) : Type 0 where
  pub element : r < 256
  pub multiple : (q : ℕ) × (p ≡ bit_xor (polynomial_product 7 q modulus) r)

-- the product of two elements is what is left of the product of their polynomials
abbrev pub ProductIsRemainder : Type 0
ProductIsRemainder = (a b : ℕ) → a < 256 → b < 256 → IsRemainder (polynomial_product 8 a b) (product a b)

-- i is the one element whose product with a is 1
pub record IsTheInverse (a i : ℕ) : Type 0 where
  pub element : i < 256
  pub one : product a i ≡ 1
  pub only : (b : ℕ) → b < 256 → product a b ≡ 1 → b ≡ i

-- each element other than 0 has its one inverse
abbrev pub InverseIsTheInverse : Type 0
InverseIsTheInverse = (a : ℕ) → 0 < a → a < 256 → IsTheInverse a (inverse a)

-- f and g are bijections of the 256 bytes, and each undoes the other
pub record AreInverseBijections (f g : ℕ → ℕ) : Type 0 where
  pub forth : (b : ℕ) → b < 256 → f b < 256
  pub back : (b : ℕ) → b < 256 → g b < 256
  pub forth_and_back : (b : ℕ) → b < 256 → g (f b) ≡ b
  pub back_and_forth : (b : ℕ) → b < 256 → f (g b) ≡ b

-- so are the two substitutions
abbrev pub SubstitutionIsABijection : Type 0
SubstitutionIsABijection = AreInverseBijections substitute inverse_substitute

-- each word of the key schedule from word 4 on is the one four places before it, added to the one before it, which
-- is turned first where a round key begins
abbrev pub ScheduleIsTheStandards : Type 0
ScheduleIsTheStandards = (key : List ℕ) → IsBlock key → (i : ℕ) →
    schedule_word key (i + 4)
    ≡ add (schedule_word key i) (if i % 4 == 0 then turned_word (i / 4) (schedule_word key (i + 3)) else schedule_word key (i + 3))

-- each step of a round, and its step back, undo each other on the block s; adding the round key k undoes itself
pub record StepsAreUndone (s k : List ℕ) : Type 0 where
  pub sub_bytes-back : inverse_sub_bytes (sub_bytes s) ≡ s
  pub sub_bytes-forth : sub_bytes (inverse_sub_bytes s) ≡ s
  pub shift_rows-back : inverse_shift_rows (shift_rows s) ≡ s
  pub shift_rows-forth : shift_rows (inverse_shift_rows s) ≡ s
  pub mix_columns-back : inverse_mix_columns (mix_columns s) ≡ s
  pub mix_columns-forth : mix_columns (inverse_mix_columns s) ≡ s
  pub add-twice : add (add s k) k ≡ s

-- of every block and round key
abbrev pub EachStepIsUndone : Type 0
EachStepIsUndone = (s k : List ℕ) → IsBlock s → IsBlock k → StepsAreUndone s k

-- what is encrypted and then decrypted is what it was, and the other way round
pub record AreUndone (key block : List ℕ) : Type 0 where
  pub decrypt-encrypt : decrypt key (encrypt key block) ≡ block
  pub encrypt-decrypt : encrypt key (decrypt key block) ≡ block

-- of every key and block
abbrev pub DecryptionUndoesEncryption : Type 0
DecryptionUndoesEncryption = (key block : List ℕ) → IsBlock key → IsBlock block → AreUndone key block
