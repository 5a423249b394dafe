-- Whole numbers of at most fifteen bytes.
use Rattle.std.proofs.Common.{◌≡◌, ℕ, ◌+◌, ◌^◌, ◌<◌, ◌≤◌, List, length, get_or, drop, arith, length-drop, get_or-drop}
use Rattle.std.proofs.Math.Nat.{pow-le-pow_right}
use Rattle.dif_vif.specs.Numbers.{low_first}
use Rattle.dif_vif.proofs.Digits.{low_first-below, low_first-few}

rest_below : (bytes : List ℕ) (left : ℕ) → ((i : ℕ) → get_or bytes i 0 < 256) → (i : ℕ) → get_or (drop left bytes) i 0 < 256
rest_below bytes left below i = rw get_or-drop (below (left + i))

pub whole_below : (bytes : List ℕ) (left number : ℕ) → length bytes ≤ 15 → ((i : ℕ) → get_or bytes i 0 < 256)
    → number ≡ low_first 256 (drop left bytes) → number < 256 ^ 15
whole_below bytes left number few below is =
    rw is (low_first-few 256 15 (drop left bytes) (omega arith) (omega (arith, length-drop left bytes)) (rest_below bytes left below))

pub limit_below : (len : ℕ) → len ≤ 15 → 256 ^ len ≤ 256 ^ 15
limit_below len few = pow-le-pow_right (omega arith) few

pub all_below : (bytes : List ℕ) (left number : ℕ) → left ≤ 0 → ((i : ℕ) → get_or bytes i 0 < 256)
    → number ≡ low_first 256 (drop left bytes) → number < 256 ^ length bytes
all_below bytes left number none below is =
    let start : left ≡ 0 = omega arith in
    rw (is, start) (low_first-below 256 bytes below)
