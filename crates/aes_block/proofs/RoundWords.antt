-- The words of the round keys.
use Rattle.std.proofs.Common.{◌≡◌, ℕ, zero, suc, ◌+◌, ◌-◌, ◌*◌, ◌<◌, ◌++◌, List, [], ◌∷◌, length, get_or, take, refl, sym, ap, ◌∙◌, bit_xor, arith, inl, inr}
use Rattle.std.proofs.lemmas.Bool.{cases_lt}
use Rattle.std.proofs.lemmas.List.{length-append, get_or_append_left, get_or-append_right, take_all}
use Rattle.std.proofs.lemmas.Nat.{xor_of_8}
use Rattle.std.specs.List.{flat_map}
use Rattle.std.specs.Int.{w32, to_be_bytes}
use Rattle.aes_block.proofs.Lists.{sixteen}
use Rattle.aes_block.proofs.Mixing.{AreBytes-4}
use Rattle.aes_block.proofs.ByteTables.{substitute-lt}
use Rattle.aes_block.proofs.Cipher.{byte_at, power_of_x-lt, IsColumn, IsColumn-add}
use Rattle.aes_block.specs.Field.{substitute}
use Rattle.aes_block.specs.Block.{IsBlock, add, power_of_x, next_round_key, round_key, column}
use Rattle.aes_block.proofs.ColumnWords.{word-add, IsColumn-column, word_bytes}
use Rattle.aes_block.specs.Words.{word, words_of, round_words, first_key, AreExpanded}

-- ---- the next round key
pub next_words_are : (b : List ℕ) (n : ℕ) → IsBlock b →
    let t : ℕ =
    word (bit_xor (substitute (get_or b 13 0)) (power_of_x n) ∷ substitute (get_or b 14 0) ∷ substitute (get_or b 15 0)
    ∷ substitute (get_or b 12 0) ∷ []) in
    bit_xor (word (column b 0)) t
    ∷ bit_xor (word (column b 1)) (bit_xor (word (column b 0)) t)
    ∷ bit_xor (word (column b 2)) (bit_xor (word (column b 1)) (bit_xor (word (column b 0)) t))
    ∷ bit_xor (word (column b 3)) (bit_xor (word (column b 2)) (bit_xor (word (column b 1)) (bit_xor (word (column b 0)) t))) ∷ []
    ≡ words_of (next_round_key n b)
next_words_are b n h =
    let at : (i : ℕ) → get_or b i 0 < 256 = byte_at b h.bytes in
    let T : List ℕ =
    bit_xor (substitute (get_or b 13 0)) (power_of_x n) ∷ substitute (get_or b 14 0) ∷ substitute (get_or b 15 0)
    ∷ substitute (get_or b 12 0) ∷ [] in
    let hT : IsColumn T =
    record {
      count = refl;
      bytes = AreBytes-4 _ _ _ _ (xor_of_8 _ _ (substitute-lt _ (at 13)) (power_of_x-lt n))
          (substitute-lt _ (at 14)) (substitute-lt _ (at 15)) (substitute-lt _ (at 12));
    } in
    let k : (c : ℕ) → IsColumn (column b c) = IsColumn-column b h in
    let v0 : List ℕ = add (column b 0) T in
    let v1 : List ℕ = add (column b 1) v0 in
    let v2 : List ℕ = add (column b 2) v1 in
    let h0 : IsColumn v0 = IsColumn-add (column b 0) T (k 0) hT in
    let h1 : IsColumn v1 = IsColumn-add (column b 1) v0 (k 1) h0 in
    let h2 : IsColumn v2 = IsColumn-add (column b 2) v1 (k 2) h1 in
    let e0 : word v0 ≡ bit_xor (word (column b 0)) (word T) = word-add (column b 0) T (k 0) hT in
    let e1 : word v1 ≡ bit_xor (word (column b 1)) (bit_xor (word (column b 0)) (word T)) =
    word-add (column b 1) v0 (k 1) h0 ∙ ap (bit_xor (word (column b 1))) e0 in
    let e2 : word v2 ≡ bit_xor (word (column b 2)) (bit_xor (word (column b 1)) (bit_xor (word (column b 0)) (word T))) =
    word-add (column b 2) v1 (k 2) h1 ∙ ap (bit_xor (word (column b 2))) e1 in
    let e3 : word (add (column b 3) v2) ≡ bit_xor (word (column b 3))
    (bit_xor (word (column b 2)) (bit_xor (word (column b 1)) (bit_xor (word (column b 0)) (word T)))) =
    word-add (column b 3) v2 (k 3) h2 ∙ ap (bit_xor (word (column b 3))) e2 in
    (λ i. sym e0 i ∷ sym e1 i ∷ sym e2 i ∷ sym e3 i ∷ [])
    ∙ ap (λ x. words_of (next_round_key n x)) (sym (sixteen b h.count))

-- ---- all of them
pub length-round_words : (n : ℕ) (key : List ℕ) → length (round_words n key) ≡ 4 * n
unfolding round_words
length-round_words zero key = refl
length-round_words (suc n) key = omega (arith, length-append (round_words n key) (words_of (round_key key n)), length-round_words n key)

pub round_word_at : (m : ℕ) (key : List ℕ) (n j : ℕ) → n < m → j < 4
    → get_or (round_words m key) (4 * n + j) 0 ≡ get_or (words_of (round_key key n)) j 0
unfolding round_words
round_word_at zero key n j h lt = absurd (omega arith)
round_word_at (suc m) key n j h lt = elim (cases_lt n m) [
  | inl a ↦ get_or_append_left (round_words m key) (words_of (round_key key m)) 0 (4 * n + j) (omega (arith, length-round_words m key))
      ∙ round_word_at m key n j a lt
  | inr b ↦
      let e : m ≡ n = omega arith in
      let k : 4 * n + j - 4 * n ≡ j = omega arith in
      rw e (get_or-append_right (round_words n key) (words_of (round_key key n)) (4 * n) (4 * n + j) 0 (length-round_words n key)
      (omega arith) ∙ ap (λ p. get_or (words_of (round_key key n)) p 0) k)
]

-- the first four words are the key's
pub first_key_is : (words key : List ℕ) → take 4 words ≡ words_of key → IsBlock key → first_key words ≡ key
unfolding first_key
first_key_is words key e h =
    let w : (c : ℕ) → to_be_bytes w32 (word (column key c)) ≡ column key c = λ c. word_bytes (column key c) (IsColumn-column key h c) in
    let J : List ℕ → List ℕ → List ℕ → List ℕ → List ℕ = λ x y z w. x ++ (y ++ (z ++ (w ++ []))) in
    ap (flat_map (to_be_bytes w32)) e
    ∙ (λ i. J (w 0 i) (w 1 i) (w 2 i) (w 3 i))
    ∙ sym (sixteen key h.count)

start : (key : List ℕ) → take 4 (round_words 11 key) ≡ words_of key
unfolding round_words round_key
start key = refl

pub expanded_of : (words key : List ℕ) (n : ℕ) → IsBlock key → n ≡ 10 → length words ≡ 44 → take (4 * n + 4) words ≡ round_words (n + 1) key
    → AreExpanded words × (first_key words ≡ key)
expanded_of words key n h ten long e =
    let whole : words ≡ round_words 11 key =
    sym (take_all 44 words (omega arith)) ∙ ap (λ k. take k words) (let p : 44 ≡ 4 * n + 4 = omega arith in p) ∙ e
    ∙ ap (λ m. round_words m key) (let p : n + 1 ≡ 11 = omega arith in p) in
    let first : first_key words ≡ key = first_key_is words key (ap (take 4) whole ∙ start key) h in
    (record { key = rw first h; whole = rw first whole }, first)
