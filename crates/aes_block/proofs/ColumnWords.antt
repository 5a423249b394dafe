-- Blocks as words.
use Rattle.std.proofs.Common.{◌≡◌, ℕ, zero, suc, ◌+◌, ◌*◌, ◌^◌, ◌<◌, ◌++◌, List, [], ◌∷◌, length, get_or, map, refl, sym, ap, ap₂, ◌∙◌, bit_xor, arith}
use Rattle.std.proofs.lemmas.Nat.{xor_block, be_bytes_4}
use Rattle.std.specs.Int.{w32, from_be_bytes, to_be_bytes}
use lib.Bits.{xor_zero_r}
use Rattle.aes_block.proofs.Lists.{AreBytes, at_four, four, sixteen}
use Rattle.aes_block.proofs.Mixing.{length-column_product, column_product_of_sum, AreBytes-4, AreBytes-column_product}
use Rattle.aes_block.proofs.Columns.{mixed_block}
use Rattle.aes_block.proofs.Cipher.{byte_at, IsColumn, IsColumn-add}
use Rattle.std.specs.List.{range_with_len}
use Rattle.aes_block.specs.Field.{substitute, inverse_substitute}
use Rattle.aes_block.specs.Block.{IsBlock, add, column_product, mix, mix_polynomial, inverse_mix_polynomial, shift_rows, sub_bytes, inverse_shift_rows, inverse_sub_bytes, column}
use Rattle.aes_block.specs.Words.{word, row, rows, words_of, one_byte}

-- a word of four bytes
word-4 : (a b c d : ℕ) → word (a ∷ b ∷ c ∷ d ∷ []) ≡ ((a * 2 ^ 8 + b) * 2 ^ 8 + c) * 2 ^ 8 + d
unfolding word
word-4 a b c d = omega arith

pub word_of_sum : (a b c d a' b' c' d' : ℕ) → b < 256 → c < 256 → d < 256 → b' < 256 → c' < 256 → d' < 256
    → word (bit_xor a a' ∷ bit_xor b b' ∷ bit_xor c c' ∷ bit_xor d d' ∷ [])
    ≡ bit_xor (word (a ∷ b ∷ c ∷ d ∷ [])) (word (a' ∷ b' ∷ c' ∷ d' ∷ []))
word_of_sum a b c d a' b' c' d' hb hc hd hb' hc' hd' =
    rw (
      word-4 a b c d,
      word-4 a' b' c' d',
      word-4 (bit_xor a a') (bit_xor b b') (bit_xor c c') (bit_xor d d'),
      xor_block 8 ((a * 2 ^ 8 + b) * 2 ^ 8 + c) ((a' * 2 ^ 8 + b') * 2 ^ 8 + c') d d' hd hd',
      xor_block 8 (a * 2 ^ 8 + b) (a' * 2 ^ 8 + b') c c' hc hc',
      xor_block 8 a a' b b' hb hb',
    )
    refl

pub word-add : (x y : List ℕ) → IsColumn x → IsColumn y → word (add x y) ≡ bit_xor (word x) (word y)
word-add x y hx hy =
    let bx = byte_at x hx.bytes in
    let by = byte_at y hy.bytes in
    ap₂ (λ (x y : List ℕ). word (add x y)) (sym (four x hx.count)) (sym (four y hy.count))
    ∙ word_of_sum (get_or x 0 0) (get_or x 1 0) (get_or x 2 0) (get_or x 3 0) (get_or y 0 0) (get_or y 1 0) (get_or y 2 0) (get_or y 3 0)
    (bx 1) (bx 2) (bx 3) (by 1) (by 2) (by 3)
    ∙ ap₂ (λ (x y : List ℕ). bit_xor (word x) (word y)) (four x hx.count) (four y hy.count)

pub word_bytes : (x : List ℕ) → IsColumn x → to_be_bytes w32 (word x) ≡ x
unfolding word
word_bytes x h = be_bytes_4 x (from_be_bytes w32 x) h.count (byte_at x h.bytes) refl

pub IsColumn-column : (b : List ℕ) → IsBlock b → (c : ℕ) → IsColumn (column b c)
IsColumn-column b h c =
    let at : (i : ℕ) → get_or b i 0 < 256 = byte_at b h.bytes in
    record { count = refl; bytes = AreBytes-4 _ _ _ _ (at (4 * c)) (at (4 * c + 1)) (at (4 * c + 2)) (at (4 * c + 3)) }

-- the bytes of a block's words
pub bytes_at : (b s : List ℕ) → IsBlock b → s ≡ words_of b → (c : ℕ) → c < 4 → to_be_bytes w32 (get_or s c 0) ≡ column b c
bytes_at b s h e zero lt = ap (λ s. to_be_bytes w32 (get_or s 0 0)) e ∙ word_bytes (column b 0) (IsColumn-column b h 0)
bytes_at b s h e (suc zero) lt = ap (λ s. to_be_bytes w32 (get_or s 1 0)) e ∙ word_bytes (column b 1) (IsColumn-column b h 1)
bytes_at b s h e (suc (suc zero)) lt = ap (λ s. to_be_bytes w32 (get_or s 2 0)) e ∙ word_bytes (column b 2) (IsColumn-column b h 2)
bytes_at b s h e (suc (suc (suc zero))) lt = ap (λ s. to_be_bytes w32 (get_or s 3 0)) e ∙ word_bytes (column b 3) (IsColumn-column b h 3)
bytes_at b s h e (suc (suc (suc (suc c)))) lt = absurd (omega arith)

-- the words of a mixed block
pub words_of-mix : (m s : List ℕ) → length s ≡ 16 →
    words_of (mix m s) ≡ word (column_product m (column s 0)) ∷ word (column_product m (column s 1)) ∷ word (column_product m (column s 2))
    ∷ word (column_product m (column s 3)) ∷ []
words_of-mix m s h =
    let f : (c : ℕ) → length (column_product m (column s c)) ≡ 4 = λ c. length-column_product m (column s c) refl in
    ap words_of
    (sym (mixed_block m s (column_product m (column s 0)) (column_product m (column s 1)) (column_product m (column s 2))
    (column_product m (column s 3)) h refl refl refl refl))
    ∙ (λ i. word (four (column_product m (column s 0)) (f 0) i) ∷ word (four (column_product m (column s 1)) (f 1) i)
    ∷ word (four (column_product m (column s 2)) (f 2) i) ∷ word (four (column_product m (column s 3)) (f 3) i) ∷ [])

-- the words of a sum
pub words_of-add : (x y : List ℕ) → IsBlock x → IsBlock y →
    words_of (add x y) ≡ bit_xor (word (column x 0)) (word (column y 0)) ∷ bit_xor (word (column x 1)) (word (column y 1))
    ∷ bit_xor (word (column x 2)) (word (column y 2)) ∷ bit_xor (word (column x 3)) (word (column y 3)) ∷ []
words_of-add x y hx hy =
    let a : (i : ℕ) → get_or x i 0 < 256 = byte_at x hx.bytes in
    let b : (i : ℕ) → get_or y i 0 < 256 = byte_at y hy.bytes in
    let each : (c : ℕ) → word (bit_xor (get_or x (4 * c) 0) (get_or y (4 * c) 0) ∷ bit_xor (get_or x (4 * c + 1) 0) (get_or y (4 * c + 1) 0)
    ∷ bit_xor (get_or x (4 * c + 2) 0) (get_or y (4 * c + 2) 0) ∷ bit_xor (get_or x (4 * c + 3) 0) (get_or y (4 * c + 3) 0) ∷ [])
    ≡ bit_xor (word (column x c)) (word (column y c)) =
    λ c. word_of_sum _ _ _ _ _ _ _ _ (a (4 * c + 1)) (a (4 * c + 2)) (a (4 * c + 3)) (b (4 * c + 1)) (b (4 * c + 2)) (b (4 * c + 3)) in
    ap₂ (λ (x y : List ℕ). words_of (add x y)) (sixteen x hx.count) (sixteen y hy.count)
    ∙ (λ i. each 0 i ∷ each 1 i ∷ each 2 i ∷ each 3 i ∷ [])

-- ---- a column from its four bytes
pub IsColumn-product : (m x : List ℕ) → AreBytes m → IsColumn x → IsColumn (column_product m x)
IsColumn-product m x hm hx = record {
  count = length-column_product m x hx.count;
  bytes = at_four (λ x. AreBytes x → AreBytes (column_product m x))
      (λ a b c d h. let at : (i : ℕ) → get_or (a ∷ b ∷ c ∷ d ∷ []) i 0 < 256 = byte_at (a ∷ b ∷ c ∷ d ∷ []) h in
      AreBytes-column_product m a b c d hm (at 0) (at 1) (at 2) (at 3))
      x hx.count hx.bytes;
}

pub word_of_mixed : (m : List ℕ) (a b c d : ℕ) → AreBytes m → a < 256 → b < 256 → c < 256 → d < 256 →
    bit_xor (bit_xor (bit_xor (word (column_product m (one_byte 0 a))) (word (column_product m (one_byte 1 b))))
    (word (column_product m (one_byte 2 c)))) (word (column_product m (one_byte 3 d)))
    ≡ word (column_product m (a ∷ b ∷ c ∷ d ∷ []))
word_of_mixed m a b c d hm ha hb hc hd =
    let z : 0 < 256 = omega arith in
    let A : List ℕ = a ∷ 0 ∷ 0 ∷ 0 ∷ [] in
    let B : List ℕ = 0 ∷ b ∷ 0 ∷ 0 ∷ [] in
    let C : List ℕ = 0 ∷ 0 ∷ c ∷ 0 ∷ [] in
    let D : List ℕ = 0 ∷ 0 ∷ 0 ∷ d ∷ [] in
    let hA : IsColumn A = record { count = refl; bytes = AreBytes-4 a 0 0 0 ha z z z } in
    let hB : IsColumn B = record { count = refl; bytes = AreBytes-4 0 b 0 0 z hb z z } in
    let hC : IsColumn C = record { count = refl; bytes = AreBytes-4 0 0 c 0 z z hc z } in
    let hD : IsColumn D = record { count = refl; bytes = AreBytes-4 0 0 0 d z z z hd } in
    let W : List ℕ → ℕ = λ x. word (column_product m x) in
    let sum : (x y : List ℕ) → IsColumn x → IsColumn y → W (add x y) ≡ bit_xor (W x) (W y) =
    λ x y hx hy. ap word (column_product_of_sum m x y hx.count hy.count)
    ∙ word-add (column_product m x) (column_product m y) (IsColumn-product m x hm hx) (IsColumn-product m y hm hy) in
    let split : add (add (add A B) C) D ≡ a ∷ b ∷ c ∷ d ∷ [] =
    rw (xor_zero_r a, xor_zero_r a, xor_zero_r a, xor_zero_r b, xor_zero_r b, xor_zero_r c) refl in
    sym (
    ap W (sym split)
    ∙ sum (add (add A B) C) D (IsColumn-add (add A B) C (IsColumn-add A B hA hB) hC) hD
    ∙ ap (λ x. bit_xor x (W D)) (sum (add A B) C (IsColumn-add A B hA hB) hC)
    ∙ ap (λ x. bit_xor (bit_xor x (W C)) (W D)) (sum A B hA hB)
    )

-- ---- the code's words

pub row-lt : (w r : ℕ) → row w r < 256
row-lt w r = byte_at (to_be_bytes w32 w) (AreBytes-4 _ _ _ _ (omega arith) (omega arith) (omega arith) (omega arith)) r

-- what is made of four bytes, each read from the bytes of a word
pub four_read : {A : Type 0} (g : ℕ → ℕ → ℕ → ℕ → A) (f0 f1 f2 f3 : ℕ → ℕ) (a b c d : ℕ) {x y z w : ℕ} {s t u v : List ℕ}
    → s ≡ to_be_bytes w32 a → t ≡ to_be_bytes w32 b → u ≡ to_be_bytes w32 c → v ≡ to_be_bytes w32 d
    → x ≡ f0 (get_or s 0 0) → y ≡ f1 (get_or t 1 0) → z ≡ f2 (get_or u 2 0) → w ≡ f3 (get_or v 3 0)
    → g x y z w ≡ g (f0 (row a 0)) (f1 (row b 1)) (f2 (row c 2)) (f3 (row d 3))
four_read g f0 f1 f2 f3 a b c d p q r k is_x is_y is_z is_w =
    (λ i. g (is_x i) (is_y i) (is_z i) (is_w i)) ∙ (λ i. g (f0 (get_or (p i) 0 0)) (f1 (get_or (q i) 1 0)) (f2 (get_or (r i) 2 0))
    (f3 (get_or (k i) 3 0)))

abbrev pub summed : ℕ → ℕ → ℕ → ℕ → ℕ
summed x y z w = bit_xor (bit_xor (bit_xor x y) z) w

abbrev pub gathered : ℕ → ℕ → ℕ → ℕ → ℕ
gathered x y z w = from_be_bytes w32 (x ∷ y ∷ z ∷ w ∷ [])

-- four bytes through f, row r of them of the r-th of these words
abbrev rows_in : List ℕ → (ℕ → ℕ) → ℕ → ℕ → ℕ → ℕ → List ℕ
rows_in s f i j k l = rows f (get_or s i 0) (get_or s j 0) (get_or s k 0) (get_or s l 0)

abbrev rows_by : List ℕ → (ℕ → ℕ) → ℕ → ℕ → ℕ → ℕ → List ℕ
rows_by b f i j k l =
    f (get_or (column b i) 0 0) ∷ f (get_or (column b j) 1 0) ∷ f (get_or (column b k) 2 0) ∷ f (get_or (column b l) 3 0) ∷ []

-- what W makes of the four columns whose rows are turned to the left, whose rows are turned to the right, and as they are
abbrev to_the_left : {A : Type 0} → (List ℕ → A) → ((i j k l : ℕ) → List ℕ) → List A
to_the_left W column_at = W (column_at 0 1 2 3) ∷ W (column_at 1 2 3 0) ∷ W (column_at 2 3 0 1) ∷ W (column_at 3 0 1 2) ∷ []

abbrev to_the_right : {A : Type 0} → (List ℕ → A) → ((i j k l : ℕ) → List ℕ) → List A
to_the_right W column_at = W (column_at 0 3 2 1) ∷ W (column_at 1 0 3 2) ∷ W (column_at 2 1 0 3) ∷ W (column_at 3 2 1 0) ∷ []

abbrev unturned : {A : Type 0} → (List ℕ → A) → ((i j k l : ℕ) → List ℕ) → List A
unturned W column_at = W (column_at 0 0 0 0) ∷ W (column_at 1 1 1 1) ∷ W (column_at 2 2 2 2) ∷ W (column_at 3 3 3 3) ∷ []

abbrev mixed : List ℕ → ℕ
mixed x = word (column_product mix_polynomial x)

abbrev mixed_back : List ℕ → ℕ
mixed_back x = word (column_product inverse_mix_polynomial x)

abbrev joined_columns : List (List ℕ) → List ℕ
joined_columns [] = []
joined_columns (x ∷ xs) = x ++ joined_columns xs

-- the words after a round, by the bytes of the words before it
module _ (b s : List ℕ) (is_block : IsBlock b) (e : s ≡ words_of b) where
  -- byte r of word c
  pub row_at : (c r : ℕ) → c < 4 → row (get_or s c 0) r ≡ get_or (column b c) r 0
  row_at c r lt = ap (λ x. get_or x r 0) (bytes_at b s is_block e c lt)

  -- four bytes, one of each of four words
  rows_are : (f : ℕ → ℕ) (i j k l : ℕ) → i < 4 → j < 4 → k < 4 → l < 4 → rows_in s f i j k l ≡ rows_by b f i j k l
  rows_are f i j k l hi hj hk hl = λ n. f (row_at i 0 hi n) ∷ f (row_at j 1 hj n) ∷ f (row_at k 2 hk n) ∷ f (row_at l 3 hl n) ∷ []

  left_is : (W : List ℕ → ℕ) (f : ℕ → ℕ) → to_the_left W (rows_in s f) ≡ to_the_left W (rows_by b f)
  left_is W f =
      let p : 0 < 4 = omega arith in
      let q : 1 < 4 = omega arith in
      let r : 2 < 4 = omega arith in
      let t : 3 < 4 = omega arith in
      λ n. W (rows_are f 0 1 2 3 p q r t n) ∷ W (rows_are f 1 2 3 0 q r t p n) ∷ W (rows_are f 2 3 0 1 r t p q n)
      ∷ W (rows_are f 3 0 1 2 t p q r n) ∷ []

  right_is : (W : List ℕ → ℕ) (f : ℕ → ℕ) → to_the_right W (rows_in s f) ≡ to_the_right W (rows_by b f)
  right_is W f =
      let p : 0 < 4 = omega arith in
      let q : 1 < 4 = omega arith in
      let r : 2 < 4 = omega arith in
      let t : 3 < 4 = omega arith in
      λ n. W (rows_are f 0 3 2 1 p t r q n) ∷ W (rows_are f 1 0 3 2 q p t r n) ∷ W (rows_are f 2 1 0 3 r q p t n)
      ∷ W (rows_are f 3 2 1 0 t r q p n) ∷ []

  unturned_is : {A : Type 0} (W : List ℕ → A) → unturned W (rows_in s (λ x. x)) ≡ unturned W (rows_by b (λ x. x))
  unturned_is W =
      let p : 0 < 4 = omega arith in
      let q : 1 < 4 = omega arith in
      let r : 2 < 4 = omega arith in
      let t : 3 < 4 = omega arith in
      let f : ℕ → ℕ = λ x. x in
      λ n. W (rows_are f 0 0 0 0 p p p p n) ∷ W (rows_are f 1 1 1 1 q q q q n) ∷ W (rows_are f 2 2 2 2 r r r r n)
      ∷ W (rows_are f 3 3 3 3 t t t t n) ∷ []

  literal : List ℕ
  literal = map (λ i. get_or b i 0) (range_with_len 0 16)

  pub forward_words : to_the_left mixed (rows_in s substitute) ≡ words_of (mix mix_polynomial (shift_rows (sub_bytes b)))
  unfolding literal
  forward_words =
      left_is mixed substitute
      ∙ sym (words_of-mix mix_polynomial (shift_rows (sub_bytes literal)) refl)
      ∙ ap (λ x. words_of (mix mix_polynomial (shift_rows (sub_bytes x)))) (sym (sixteen b is_block.count))

  pub last_words : to_the_left word (rows_in s substitute) ≡ words_of (shift_rows (sub_bytes b))
  last_words = left_is word substitute ∙ ap (λ x. words_of (shift_rows (sub_bytes x))) (sym (sixteen b is_block.count))

  pub inverse_round_words : to_the_right word (rows_in s inverse_substitute) ≡ words_of (inverse_sub_bytes (inverse_shift_rows b))
  inverse_round_words =
      right_is word inverse_substitute
      ∙ ap (λ x. words_of (inverse_sub_bytes (inverse_shift_rows x))) (sym (sixteen b is_block.count))

  pub backward_words : to_the_right mixed_back (rows_in s inverse_substitute)
      ≡ words_of (mix inverse_mix_polynomial (inverse_sub_bytes (inverse_shift_rows b)))
  unfolding literal
  backward_words =
      right_is mixed_back inverse_substitute
      ∙ sym (words_of-mix inverse_mix_polynomial (inverse_sub_bytes (inverse_shift_rows literal)) refl)
      ∙ ap (λ x. words_of (mix inverse_mix_polynomial (inverse_sub_bytes (inverse_shift_rows x)))) (sym (sixteen b is_block.count))

  pub words_mixed_back : unturned mixed_back (rows_in s (λ x. x)) ≡ words_of (mix inverse_mix_polynomial b)
  words_mixed_back = unturned_is mixed_back ∙ sym (words_of-mix inverse_mix_polynomial b is_block.count)

  pub stored : joined_columns (unturned (λ x. x) (rows_in s (λ x. x))) ≡ b
  stored = ap joined_columns (unturned_is (λ x. x)) ∙ sym (sixteen b is_block.count)
