-- Blocks as four words of 32 bits: a column is a word (FIPS 197, section 3.5), its first row highest.
use Rattle.std.specs.Prelude.{◌≡◌, ℕ, zero, suc, ◌+◌, ◌<◌, List, [], ◌∷◌, ◌++◌, length, take, slice_index, slice_index_or, slice_set}
use Rattle.std.specs.List.{flat_map}
use Rattle.std.specs.Int.{w32, from_be_bytes, to_be_bytes}
use Rattle.aes_block.specs.Field.{substitute, inverse_substitute}
use Rattle.aes_block.specs.Block.{IsBlock, column, column_product, mix_polynomial, inverse_mix_polynomial, inverse_mix_columns, round_key}

-- the word of a column
unfoldable pub word : List ℕ → ℕ
word column = from_be_bytes w32 column

-- the byte of a word at row r
abbrev pub row : ℕ → ℕ → ℕ
row w r = slice_index (to_be_bytes w32 w) r

-- four bytes through f, one row of each of four words
abbrev pub rows : (ℕ → ℕ) → ℕ → ℕ → ℕ → ℕ → List ℕ
rows f a b c d = f (row a 0) ∷ f (row b 1) ∷ f (row c 2) ∷ f (row d 3) ∷ []

-- the four words of a block
abbrev pub words_of : List ℕ → List ℕ
words_of b = word (column b 0) ∷ word (column b 1) ∷ word (column b 2) ∷ word (column b 3) ∷ []

-- these are the four words of the block
pub record AreWordsOf (s b : List ℕ) : Type 0 where
  pub block : IsBlock b
  pub words : s ≡ words_of b

-- the words of the first n round keys of a key
unfoldable pub round_words : ℕ → List ℕ → List ℕ
round_words zero key = []
round_words (suc n) key = round_words n key ++ words_of (round_key key n)

-- the key that stands in the first four words
unfoldable pub first_key : List ℕ → List ℕ
first_key words = flat_map (to_be_bytes w32) (take 4 words)

-- these are the words of all round keys of the key that stands first
pub record AreExpanded (words : List ℕ) : Type 0 where
  pub key : IsBlock (first_key words)
  pub whole : words ≡ round_words 11 (first_key words)

-- ---- the tables

-- a column that has x in row r, and zeros in the others
abbrev pub one_byte : ℕ → ℕ → List ℕ
one_byte r x = slice_set (0 ∷ 0 ∷ 0 ∷ 0 ∷ []) r x

-- x substituted in row r of a column of zeros, and the column mixed
unfoldable pub mixed_substitute : ℕ → ℕ → ℕ
mixed_substitute r x = word (column_product mix_polynomial (one_byte r (substitute x)))

-- x in row r of a column of zeros, and the column mixed back
unfoldable pub inverse_mixed : ℕ → ℕ → ℕ
inverse_mixed r x = word (column_product inverse_mix_polynomial (one_byte r x))

-- x with its substitution taken back in row r of a column of zeros, and the column mixed back
unfoldable pub inverse_mixed_substitute : ℕ → ℕ → ℕ
inverse_mixed_substitute r x = word (column_product inverse_mix_polynomial (one_byte r (inverse_substitute x)))

-- ---- the equivalent inverse cipher (5.3.5)

-- these are the words of a round key, mixed back
pub record IsMixedBack (words k : List ℕ) : Type 0 where
  pub block : IsBlock k
  pub mixed : AreWordsOf words (inverse_mix_columns k)

-- these are the words of the round keys 1 to 9 of a key, each mixed back
pub record AreMixedBack (mixed : List (List ℕ)) (key : List ℕ) : Type 0 where
  pub long : length mixed ≡ 9
  pub each : (n : ℕ) → n < 9 → IsMixedBack (slice_index_or mixed n []) (round_key key (n + 1))
