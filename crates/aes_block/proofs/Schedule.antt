-- The words of the round keys follow the standard's recurrence.
use Rattle.std.proofs.Common.{◌≡◌, ℕ, zero, suc, ◌+◌, ◌*◌, ◌/◌, ◌%◌, ◌<◌, ◌==◌, if◌then◌else◌, List, length, map, get_or, refl, sym, subst, arith}
use Rattle.std.specs.List.{range_with_len}
use Rattle.aes_block.proofs.Lists.{sixteen}
use Rattle.aes_block.proofs.Cipher.{IsBlock-round_key}
use Rattle.aes_block.specs.Block.{IsBlock, column, add, turned_word, next_round_key, round_key, schedule_word}
use Rattle.aes_block.specs.Laws.{ScheduleIsTheStandards}

-- the words of the round key after k, of which each follows the one before it
pub record IsNext (n : ℕ) (k next : List ℕ) : Type 0 where
  pub first : column next 0 ≡ add (column k 0) (turned_word n (column k 3))
  pub second : column next 1 ≡ add (column k 1) (column next 0)
  pub third : column next 2 ≡ add (column k 2) (column next 1)
  pub fourth : column next 3 ≡ add (column k 3) (column next 2)

is_next : (n : ℕ) (k : List ℕ) → length k ≡ 16 → IsNext n k (next_round_key n k)
is_next n k h =
    let P : List ℕ → Type 0 = λ k. IsNext n k (next_round_key n k) in
    let here : P (map (λ i. get_or k i 0) (range_with_len 0 16)) = record { first = refl; second = refl; third = refl; fourth = refl } in
    subst P (sym (sixteen k h)) here

module _ (key : List ℕ) (h : IsBlock key) (n i : ℕ) where
  here : IsNext n (round_key key n) (round_key key (suc n))
  unfolding round_key
  here = is_next n (round_key key n) (IsBlock-round_key key n h).count

  -- word i, word i + 3 and word i + 4 in their round keys
  placed : (r n3 r3 : ℕ) → r < 4 → i ≡ 4 * n + r → r3 < 4 → i + 3 ≡ 4 * n3 + r3 →
      column (round_key key (suc n)) r
      ≡ add (column (round_key key n) r)
      (if r == 0 then turned_word n (column (round_key key n3) r3) else column (round_key key n3) r3)
      → schedule_word key (i + 4)
      ≡ add (schedule_word key i) (if i % 4 == 0 then turned_word (i / 4) (schedule_word key (i + 3)) else schedule_word key (i + 3))
  placed r n3 r3 lt e lt3 e3 h =
      let a : (i + 4) / 4 ≡ suc n = omega arith in
      let b : (i + 4) % 4 ≡ r = omega arith in
      let c : i / 4 ≡ n = omega arith in
      let d : i % 4 ≡ r = omega arith in
      let f : (i + 3) / 4 ≡ n3 = omega arith in
      let g : (i + 3) % 4 ≡ r3 = omega arith in
      rw (a, b, c, d, f, g) h

  at : (r : ℕ) → r < 4 → i ≡ 4 * n + r →
      schedule_word key (i + 4)
      ≡ add (schedule_word key i) (if i % 4 == 0 then turned_word (i / 4) (schedule_word key (i + 3)) else schedule_word key (i + 3))
  at zero lt e = placed 0 n 3 (omega arith) (omega arith) (omega arith) (omega arith) here.first
  at (suc zero) lt e = placed 1 (suc n) 0 (omega arith) (omega arith) (omega arith) (omega arith) here.second
  at (suc (suc zero)) lt e = placed 2 (suc n) 1 (omega arith) (omega arith) (omega arith) (omega arith) here.third
  at (suc (suc (suc zero))) lt e = placed 3 (suc n) 2 (omega arith) (omega arith) (omega arith) (omega arith) here.fourth
  at (suc (suc (suc (suc r)))) lt e = absurd (omega arith)

pub schedule_is_the_standards : ScheduleIsTheStandards
schedule_is_the_standards key h i = at key h (i / 4) i (i % 4) (omega arith) (omega arith)
