-- AES-128 (FIPS 197). A block is a list of 16 elements, column after column: element r + 4 c stands in row r of
-- column c (3.4). So is a key, and each round key.
use Rattle.std.specs.Prelude.{◌≡◌, ℕ, zero, suc, ◌+◌, ◌-◌, ◌*◌, ◌/◌, ◌%◌, ◌<◌, List, [], ◌∷◌, ◌++◌, length, drop, map, slice_index, bit_xor}
use Rattle.std.specs.List.{range_with_len, All}
use Rattle.aes_block.specs.Field.{product, substitute, inverse_substitute}

-- 16 elements, each of them a byte
pub record IsBlock (s : List ℕ) : Type 0 where
  pub count : length s ≡ 16
  pub bytes : All (λ b. b < 256) s

-- column c of a block (3.5)
abbrev pub column : List ℕ → ℕ → List ℕ
column s c = slice_index s (4 * c) ∷ slice_index s (4 * c + 1) ∷ slice_index s (4 * c + 2) ∷ slice_index s (4 * c + 3) ∷ []

-- the sum of two lists of elements, place by place; of a block and a round key (5.1.4)
abbrev pub add : List ℕ → List ℕ → List ℕ
add (x ∷ xs) (y ∷ ys) = bit_xor x y ∷ add xs ys
add _ _ = []

-- ---- the steps of a round, and the steps back

-- each element substituted (5.1.1)
abbrev pub sub_bytes : List ℕ → List ℕ
sub_bytes s = map substitute s

-- each element's substitution taken back (5.3.2)
abbrev pub inverse_sub_bytes : List ℕ → List ℕ
inverse_sub_bytes s = map inverse_substitute s

-- the element in row r of column c, where the columns are counted modulo 4
abbrev pub element : List ℕ → ℕ → ℕ → ℕ
element s r c = slice_index s (r + 4 * (c % 4))

-- the block with f r c in row r of column c
abbrev pub block_of : (ℕ → ℕ → ℕ) → List ℕ
block_of f = map (λ i. f (i % 4) (i / 4)) (range_with_len 0 16)

-- row r turned to the left by r places (5.1.2)
abbrev pub shift_rows : List ℕ → List ℕ
shift_rows s = block_of (λ r c. element s r (c + r))

-- row r turned to the right by r places (5.3.1)
abbrev pub inverse_shift_rows : List ℕ → List ℕ
inverse_shift_rows s = block_of (λ r c. element s r (c + 4 - r))

-- x times a polynomial of four coefficients, the lowest first, where x^4 is 1
abbrev pub times_x : List ℕ → List ℕ
times_x (a ∷ b ∷ c ∷ d ∷ []) = d ∷ a ∷ b ∷ c ∷ []
times_x _ = []

-- the product of two such polynomials modulo x^4 + 1 (4.3)
unfoldable pub column_product : List ℕ → List ℕ → List ℕ
column_product [] column = 0 ∷ 0 ∷ 0 ∷ 0 ∷ []
column_product (a ∷ rest) column = add (map (product a) column) (column_product rest (times_x column))

-- each column of a block, a polynomial, times the polynomial m
unfoldable pub mix : List ℕ → List ℕ → List ℕ
mix m (a ∷ b ∷ c ∷ d ∷ s) = column_product m (a ∷ b ∷ c ∷ d ∷ []) ++ mix m s
mix m _ = []

-- 3 x^3 + x^2 + x + 2 (5.1.3)
abbrev pub mix_polynomial : List ℕ
mix_polynomial = 0x02 ∷ 0x01 ∷ 0x01 ∷ 0x03 ∷ []

-- each column times it
abbrev pub mix_columns : List ℕ → List ℕ
mix_columns s = mix mix_polynomial s

-- 11 x^3 + 13 x^2 + 9 x + 14 (5.3.3)
abbrev pub inverse_mix_polynomial : List ℕ
inverse_mix_polynomial = 0x0E ∷ 0x09 ∷ 0x0D ∷ 0x0B ∷ []

-- each column times it
abbrev pub inverse_mix_columns : List ℕ → List ℕ
inverse_mix_columns s = mix inverse_mix_polynomial s

-- ---- the round keys (5.2)

-- x^n in the field: the round constant of round key n + 1
unfoldable pub power_of_x : ℕ → ℕ
power_of_x zero = 1
power_of_x (suc n) = product 2 (power_of_x n)

-- a word of a key turned to the left by one element, each element substituted, and x^n added to the first
abbrev pub turned_word : ℕ → List ℕ → List ℕ
turned_word n (a ∷ b ∷ c ∷ d ∷ []) =
    bit_xor (substitute b) (power_of_x n) ∷ substitute c ∷ substitute d ∷ substitute a ∷ []
turned_word n _ = []

-- the words of a round key, each added to the new word before it
abbrev pub chained : List ℕ → List ℕ → List ℕ
chained before (a ∷ b ∷ c ∷ d ∷ k) = add (a ∷ b ∷ c ∷ d ∷ []) before ++ chained (add (a ∷ b ∷ c ∷ d ∷ []) before) k
chained before _ = []

-- the round key after k, which is round key n: before its first new word stands its last word, turned
abbrev pub next_round_key : ℕ → List ℕ → List ℕ
next_round_key n k = chained (turned_word n (drop 12 k)) k

-- round key n of a key
unfoldable pub round_key : List ℕ → ℕ → List ℕ
round_key key zero = key
round_key key (suc n) = next_round_key n (round_key key n)

-- word i of the key schedule: a column of a round key
abbrev pub schedule_word : List ℕ → ℕ → List ℕ
schedule_word key i = column (round_key key (i / 4)) (i % 4)

-- ---- the cipher (5.1) and the inverse cipher (5.3)

-- the cipher's state after n rounds
unfoldable pub state_after : ℕ → List ℕ → List ℕ → List ℕ
state_after zero key s = add s (round_key key 0)
state_after (suc n) key s = add (mix_columns (shift_rows (sub_bytes (state_after n key s)))) (round_key key (suc n))

-- the block encrypted: the tenth round doesn't mix
unfoldable pub encrypt : List ℕ → List ℕ → List ℕ
encrypt key s = add (shift_rows (sub_bytes (state_after 9 key s))) (round_key key 10)

-- the inverse cipher's state after n rounds
unfoldable pub inverse_state_after : ℕ → List ℕ → List ℕ → List ℕ
inverse_state_after zero key s = add s (round_key key 10)
inverse_state_after (suc n) key s =
    inverse_mix_columns (add (inverse_sub_bytes (inverse_shift_rows (inverse_state_after n key s))) (round_key key (9 - n)))

-- the block decrypted: the tenth round doesn't mix
unfoldable pub decrypt : List ℕ → List ℕ → List ℕ
decrypt key s = add (inverse_sub_bytes (inverse_shift_rows (inverse_state_after 9 key s))) (round_key key 0)
