-- Decryption undoes encryption, and encryption decryption.
use Rattle.std.proofs.Common.{◌≡◌, ℕ, zero, suc, ◌+◌, ◌-◌, ◌*◌, ◌%◌, ◌/◌, ◌<◌, List, [], ◌∷◌, length, get_or, map, drop, refl, sym, ap, ap₂, ◌∙◌, arith, inl, inr}
use Rattle.std.proofs.lemmas.Bool.{cases_lt}
use Rattle.std.proofs.lemmas.List.{length-append, length-map, length-drop, get_or_past}
use Rattle.std.proofs.lemmas.List.Elements.{All-nil, All-cons, All-head, All-tail, All-append, All-get_or, All-drop}
use Rattle.std.proofs.lemmas.Nat.{xor_of_8}
use Rattle.std.specs.List.{range_with_len}
use Rattle.aes_block.proofs.Lists.{AreBytes, add-add, length-add, AreBytes-add, at_four, sixteen}
use Rattle.aes_block.proofs.Mixing.{by_columns, length-mix, AreBytes-mix, AreBytes-map, AreBytes-4, AreBytes-mix_polynomial, AreBytes-inverse_mix_polynomial, inverse_mix-mix, mix-inverse_mix}
use Rattle.aes_block.proofs.ByteTables.{substitute-lt, inverse_substitute-lt, inverse_substitute-substitute, substitute-inverse_substitute}
use Rattle.aes_block.proofs.Elements.{product-lt}
use Rattle.aes_block.specs.Field.{substitute, inverse_substitute}
use Rattle.aes_block.specs.Block.{IsBlock, add, sub_bytes, inverse_sub_bytes, element, shift_rows, inverse_shift_rows, mix_columns, inverse_mix_columns, mix_polynomial, inverse_mix_polynomial, power_of_x, turned_word, chained, next_round_key, round_key, state_after, inverse_state_after, encrypt, decrypt}
use Rattle.aes_block.specs.Laws.{EachStepIsUndone, DecryptionUndoesEncryption}

-- ---- what keeps a block a block
AreBytes-made : (f : ℕ → ℕ) → ((x : ℕ) → f x < 256) → (xs : List ℕ) → AreBytes (map f xs)
AreBytes-made f low [] = All-nil (λ x. x < 256)
AreBytes-made f low (x ∷ xs) = All-cons (λ x. x < 256) (f x) (map f xs) (low x) (AreBytes-made f low xs)

pub byte_at : (s : List ℕ) → AreBytes s → (i : ℕ) → get_or s i 0 < 256
byte_at s h i = elim (cases_lt i (length s)) [
  | inl lt ↦ All-get_or (λ x. x < 256) s i 0 lt h
  | inr ge ↦ rw (get_or_past s i 0 ge) (omega arith)
]

pub IsBlock-add : (s k : List ℕ) → IsBlock s → IsBlock k → IsBlock (add s k)
IsBlock-add s k hs hk = record { count = omega (arith, length-add s k, hs.count, hk.count); bytes = AreBytes-add s k hs.bytes hk.bytes }

pub IsBlock-sub_bytes : (s : List ℕ) → IsBlock s → IsBlock (sub_bytes s)
IsBlock-sub_bytes s h = record { count = length-map s substitute ∙ h.count; bytes = AreBytes-map substitute substitute-lt s h.bytes }

pub IsBlock-inverse_sub_bytes : (s : List ℕ) → IsBlock s → IsBlock (inverse_sub_bytes s)
IsBlock-inverse_sub_bytes s h =
    record { count = length-map s inverse_substitute ∙ h.count; bytes = AreBytes-map inverse_substitute inverse_substitute-lt s h.bytes }

pub IsBlock-shift_rows : (s : List ℕ) → IsBlock s → IsBlock (shift_rows s)
IsBlock-shift_rows s h =
    record { count = refl; bytes = AreBytes-made (λ i. element s (i % 4) (i / 4 + i % 4)) (λ i. byte_at s h.bytes _) (range_with_len 0 16) }

pub IsBlock-inverse_shift_rows : (s : List ℕ) → IsBlock s → IsBlock (inverse_shift_rows s)
IsBlock-inverse_shift_rows s h =
    record {
      count = refl;
      bytes = AreBytes-made (λ i. element s (i % 4) (i / 4 + 4 - i % 4)) (λ i. byte_at s h.bytes _)
          (range_with_len 0 16);
    }

pub IsBlock-mix_columns : (s : List ℕ) → IsBlock s → IsBlock (mix_columns s)
IsBlock-mix_columns s h =
    record {
      count = length-mix mix_polynomial 4 s h.count;
      bytes = AreBytes-mix mix_polynomial 4 s h.count AreBytes-mix_polynomial h.bytes;
    }

pub IsBlock-inverse_mix_columns : (s : List ℕ) → IsBlock s → IsBlock (inverse_mix_columns s)
IsBlock-inverse_mix_columns s h =
    record {
      count = length-mix inverse_mix_polynomial 4 s h.count;
      bytes = AreBytes-mix inverse_mix_polynomial 4 s h.count AreBytes-inverse_mix_polynomial h.bytes;
    }

-- ---- what undoes what
map-undone : (f g : ℕ → ℕ) → ((x : ℕ) → x < 256 → f (g x) ≡ x) → (xs : List ℕ) → AreBytes xs → map f (map g xs) ≡ xs
map-undone f g undone [] h = refl
map-undone f g undone (x ∷ xs) h =
    let P : ℕ → Type 0 = λ x. x < 256 in
    ap₂ (λ (y : ℕ) (ys : List ℕ). y ∷ ys) (undone x (All-head P x xs h)) (map-undone f g undone xs (All-tail P x xs h))

inverse_shift_rows-shift_rows : (s : List ℕ) → length s ≡ 16 → inverse_shift_rows (shift_rows s) ≡ s
inverse_shift_rows-shift_rows s h = sym (sixteen s h)

shift_rows-inverse_shift_rows : (s : List ℕ) → length s ≡ 16 → shift_rows (inverse_shift_rows s) ≡ s
shift_rows-inverse_shift_rows s h = sym (sixteen s h)

-- ---- the round keys
pub power_of_x-lt : (n : ℕ) → power_of_x n < 256
unfolding power_of_x
power_of_x-lt zero = omega arith
power_of_x-lt (suc n) = product-lt 2 (power_of_x n) (omega arith) (power_of_x-lt n)

-- a column of bytes
pub record IsColumn (x : List ℕ) : Type 0 where
  pub count : length x ≡ 4
  pub bytes : AreBytes x

IsColumn-turned : (n : ℕ) (w : List ℕ) → IsColumn w → IsColumn (turned_word n w)
IsColumn-turned n w h =
    at_four (λ w. AreBytes w → IsColumn (turned_word n w))
    (λ a b c d hs.
    let at : (i : ℕ) → get_or (a ∷ b ∷ c ∷ d ∷ []) i 0 < 256 = byte_at (a ∷ b ∷ c ∷ d ∷ []) hs in record {
      count = refl;
      bytes = AreBytes-4 _ _ _ _ (xor_of_8 _ _ (substitute-lt b (at 1)) (power_of_x-lt n)) (substitute-lt c (at 2)) (substitute-lt d (at 3))
          (substitute-lt a (at 0));
    })
    w h.count h.bytes

pub IsColumn-add : (v w : List ℕ) → IsColumn v → IsColumn w → IsColumn (add v w)
IsColumn-add v w hv hw =
    record { count = omega (arith, length-add v w, hv.count, hw.count); bytes = AreBytes-add v w hv.bytes hw.bytes }

chained_is : (q : ℕ) (k : List ℕ) → length k ≡ 4 * q → (w : List ℕ) → IsColumn w → AreBytes k
    → (length (chained w k) ≡ length k) × AreBytes (chained w k)
chained_is =
    let P : ℕ → Type 0 = λ x. x < 256 in
    by_columns (λ k. (w : List ℕ) → IsColumn w → AreBytes k → (length (chained w k) ≡ length k) × AreBytes (chained w k))
    (λ w hw hk. (refl, All-nil P))
    (λ a b c d k rest w hw hk.
    let v : List ℕ = a ∷ b ∷ c ∷ d ∷ [] in
    let at : (i : ℕ) → get_or (a ∷ b ∷ c ∷ d ∷ k) i 0 < 256 = byte_at (a ∷ b ∷ c ∷ d ∷ k) hk in
    let sum : IsColumn (add v w) =
    IsColumn-add v w (record { count = refl; bytes = AreBytes-4 a b c d (at 0) (at 1) (at 2) (at 3) }) hw in
    let more = rest (add v w) sum (All-drop P 4 (a ∷ b ∷ c ∷ d ∷ k) hk) in (
      omega (arith, length-append (add v w) (chained (add v w) k), sum.count, more.0),
      All-append P (add v w) (chained (add v w) k) sum.bytes more.1,
    ))

pub IsBlock-next_round_key : (n : ℕ) (k : List ℕ) → IsBlock k → IsBlock (next_round_key n k)
IsBlock-next_round_key n k h =
    let last : IsColumn (drop 12 k) =
    record { count = omega (arith, length-drop 12 k, h.count); bytes = All-drop (λ x. x < 256) 12 k h.bytes } in
    let made = chained_is 4 k h.count (turned_word n (drop 12 k)) (IsColumn-turned n (drop 12 k) last) h.bytes in
    record { count = made.0 ∙ h.count; bytes = made.1 }

pub IsBlock-round_key : (key : List ℕ) (n : ℕ) → IsBlock key → IsBlock (round_key key n)
unfolding round_key
IsBlock-round_key key zero h = h
IsBlock-round_key key (suc n) h = IsBlock-next_round_key n (round_key key n) (IsBlock-round_key key n h)

-- ---- the rounds
module _ (key : List ℕ) (is_key : IsBlock key) where
  key_at : (n : ℕ) → IsBlock (round_key key n)
  key_at n = IsBlock-round_key key n is_key

  added_twice : (s : List ℕ) (n : ℕ) → IsBlock s → add (add s (round_key key n)) (round_key key n) ≡ s
  added_twice s n h = add-add s (round_key key n) (h.count ∙ sym (key_at n).count)

  pub IsBlock-state_after : (n : ℕ) (s : List ℕ) → IsBlock s → IsBlock (state_after n key s)
  unfolding state_after
  IsBlock-state_after zero s h = IsBlock-add s _ h (key_at 0)
  IsBlock-state_after (suc n) s h =
      IsBlock-add _ _ (IsBlock-mix_columns _ (IsBlock-shift_rows _ (IsBlock-sub_bytes _ (IsBlock-state_after n s h)))) (key_at (suc n))

  pub IsBlock-inverse_state_after : (n : ℕ) (s : List ℕ) → IsBlock s → IsBlock (inverse_state_after n key s)
  unfolding inverse_state_after
  IsBlock-inverse_state_after zero s h = IsBlock-add s _ h (key_at 10)
  IsBlock-inverse_state_after (suc n) s h =
      IsBlock-inverse_mix_columns _
      (IsBlock-add _ _ (IsBlock-inverse_sub_bytes _ (IsBlock-inverse_shift_rows _ (IsBlock-inverse_state_after n s h))) (key_at (9 - n)))

  pub IsBlock-encrypt : (s : List ℕ) → IsBlock s → IsBlock (encrypt key s)
  unfolding encrypt
  IsBlock-encrypt s h = IsBlock-add _ _ (IsBlock-shift_rows _ (IsBlock-sub_bytes _ (IsBlock-state_after 9 s h))) (key_at 10)

  pub IsBlock-decrypt : (s : List ℕ) → IsBlock s → IsBlock (decrypt key s)
  unfolding decrypt
  IsBlock-decrypt s h =
      IsBlock-add _ _ (IsBlock-inverse_sub_bytes _ (IsBlock-inverse_shift_rows _ (IsBlock-inverse_state_after 9 s h))) (key_at 0)

  inner_undone : (s : List ℕ) → IsBlock s → inverse_sub_bytes (inverse_shift_rows (shift_rows (sub_bytes s))) ≡ s
  inner_undone s h =
      ap inverse_sub_bytes (inverse_shift_rows-shift_rows (sub_bytes s) (IsBlock-sub_bytes s h).count)
      ∙ map-undone inverse_substitute substitute inverse_substitute-substitute s h.bytes

  outer_undone : (s : List ℕ) → IsBlock s → shift_rows (sub_bytes (inverse_sub_bytes (inverse_shift_rows s))) ≡ s
  outer_undone s h =
      ap shift_rows (map-undone substitute inverse_substitute substitute-inverse_substitute (inverse_shift_rows s)
      (IsBlock-inverse_shift_rows s h).bytes)
      ∙ shift_rows-inverse_shift_rows s h.count

  module _ (s : List ℕ) (is_block : IsBlock s) where
    after : (j : ℕ) → IsBlock (state_after j key s)
    after j = IsBlock-state_after j s is_block

    -- n rounds taken back of the whole leave what j rounds made
    taken_back : (n j : ℕ) → n + j ≡ 9 → inverse_state_after n key (encrypt key s) ≡ shift_rows (sub_bytes (state_after j key s))
    unfolding inverse_state_after state_after encrypt
    taken_back zero j e =
        let nine : j ≡ 9 = omega arith in
        rw nine (added_twice (shift_rows (sub_bytes (state_after 9 key s))) 10 (IsBlock-shift_rows _ (IsBlock-sub_bytes _ (after 9))))
    taken_back (suc n) j e =
        let up : 9 - n ≡ suc j = omega arith in
        let inner = IsBlock-shift_rows _ (IsBlock-sub_bytes _ (after j)) in
        rw (taken_back n (suc j) (omega arith), inner_undone (state_after (suc j) key s) (after (suc j)), up)
        (ap inverse_mix_columns (added_twice (mix_columns (shift_rows (sub_bytes (state_after j key s)))) (suc j)
        (IsBlock-mix_columns _ inner))
        ∙ inverse_mix-mix 4 (shift_rows (sub_bytes (state_after j key s))) inner.count inner.bytes)

    decrypt-encrypt : decrypt key (encrypt key s) ≡ s
    unfolding decrypt state_after
    decrypt-encrypt =
        rw (taken_back 9 0 refl, inner_undone (state_after 0 key s) (after 0))
        (added_twice s 0 is_block)

    before : (n : ℕ) → IsBlock (inverse_state_after n key s)
    before n = IsBlock-inverse_state_after n s is_block

    -- j rounds of what was taken back leave what n rounds taken back leave
    made_again : (n j : ℕ) → n + j ≡ 9
        → state_after j key (decrypt key s) ≡ inverse_sub_bytes (inverse_shift_rows (inverse_state_after n key s))
    unfolding inverse_state_after state_after decrypt
    made_again n zero e =
        let nine : n ≡ 9 = omega arith in
        rw nine (added_twice (inverse_sub_bytes (inverse_shift_rows (inverse_state_after 9 key s))) 0
        (IsBlock-inverse_sub_bytes _ (IsBlock-inverse_shift_rows _ (before 9))))
    made_again n (suc j) e =
        let up : 9 - n ≡ suc j = omega arith in
        let inner = IsBlock-inverse_sub_bytes _ (IsBlock-inverse_shift_rows _ (before n)) in
        let sum = IsBlock-add _ _ inner (key_at (9 - n)) in
        rw (
          made_again (suc n) j (omega arith),
          outer_undone (inverse_state_after (suc n) key s) (before (suc n)),
          mix-inverse_mix 4 _ sum.count sum.bytes,
          up,
        )
        (added_twice _ (suc j) inner)

    encrypt-decrypt : encrypt key (decrypt key s) ≡ s
    unfolding encrypt inverse_state_after
    encrypt-decrypt =
        rw (made_again 0 9 refl, outer_undone (inverse_state_after 0 key s) (before 0))
        (added_twice s 10 is_block)

pub decryption_undoes_encryption : DecryptionUndoesEncryption
decryption_undoes_encryption key block is_key is_block = record {
  decrypt-encrypt = decrypt-encrypt key is_key block is_block;
  encrypt-decrypt = encrypt-decrypt key is_key block is_block;
}

pub each_step_is_undone : EachStepIsUndone
each_step_is_undone s k hs hk = record {
  sub_bytes-back = map-undone inverse_substitute substitute inverse_substitute-substitute s hs.bytes;
  sub_bytes-forth = map-undone substitute inverse_substitute substitute-inverse_substitute s hs.bytes;
  shift_rows-back = inverse_shift_rows-shift_rows s hs.count;
  shift_rows-forth = shift_rows-inverse_shift_rows s hs.count;
  mix_columns-back = inverse_mix-mix 4 s hs.count hs.bytes;
  mix_columns-forth = mix-inverse_mix 4 s hs.count hs.bytes;
  add-twice = add-add s k (hs.count ∙ sym hk.count);
}
