-- The decimal digits of bytes, and the number of some of them.
use Rattle.std.proofs.Common.{◌≡◌, ℕ, zero, suc, ◌*◌, ◌/◌, ◌%◌, ◌^◌, ◌<◌, ◌≤◌, Bool, true, leb, List, [], ◌∷◌, length, get_or, take, drop, refl, arith, length-take, length-drop, take_all}
use Rattle.std.specs.List.{list_all}
use Rattle.std.proofs.lemmas.Bool.{leb-true, and_parts}
use Rattle.dif_vif.specs.Numbers.{low_first}
use Rattle.dif_vif.proofs.Digits.{low_first-few}
use Rattle.record_values.specs.Values.{digits_of}

-- a digit of a decimal number
abbrev pub is_decimal : ℕ → Bool
is_decimal digit = leb digit 9

pub length-digits_of : (bytes : List ℕ) → length (digits_of bytes) ≡ 2 * length bytes
length-digits_of [] = refl
length-digits_of (byte ∷ bytes) = omega (arith, length-digits_of bytes)

-- the digit at a place
pub digits_of-even : (bytes : List ℕ) (place : ℕ) → place % 2 ≡ 0 → get_or (digits_of bytes) place 0 ≡ get_or bytes (place / 2) 0 % 16
digits_of-even [] place even = refl
digits_of-even (byte ∷ bytes) zero even = refl
digits_of-even (byte ∷ bytes) (suc zero) even = absurd (omega arith)
digits_of-even (byte ∷ bytes) (suc (suc place)) even =
    let half : suc (suc place) / 2 ≡ suc (place / 2) = omega arith in
    rw half (digits_of-even bytes place (omega arith))

pub digits_of-odd : (bytes : List ℕ) (place : ℕ) → place % 2 ≡ 1 → get_or (digits_of bytes) place 0 ≡ get_or bytes (place / 2) 0 / 16
digits_of-odd [] place odd = refl
digits_of-odd (byte ∷ bytes) zero odd = absurd (omega arith)
digits_of-odd (byte ∷ bytes) (suc zero) odd = refl
digits_of-odd (byte ∷ bytes) (suc (suc place)) odd =
    let half : suc (suc place) / 2 ≡ suc (place / 2) = omega arith in
    rw half (digits_of-odd bytes place (omega arith))

-- ---- all digits are decimal

all_below : (digits : List ℕ) → list_all is_decimal digits ≡ true → (i : ℕ) → get_or digits i 0 < 10
all_below [] all i = omega arith
all_below (digit ∷ digits) all zero = omega (arith, leb-true digit 9 (and_parts (is_decimal digit) (list_all is_decimal digits) all).0)
all_below (digit ∷ digits) all (suc i) = all_below digits (and_parts (is_decimal digit) (list_all is_decimal digits) all).1 i

pub decimal_below : (most : ℕ) (digits : List ℕ) → length digits ≤ most → list_all is_decimal digits ≡ true
    → low_first 10 digits < 10 ^ most
decimal_below most digits few all = low_first-few 10 most digits (omega arith) few (all_below digits all)

-- ---- the loop over the first digits

-- what stands from a place on among the first digits
pub record IsRead (bytes : List ℕ) (count left number : ℕ) : Type 0 where
  pub within : left ≤ count
  pub all : list_all is_decimal (drop left (take count (digits_of bytes))) ≡ true
  pub is : number ≡ low_first 10 (drop left (take count (digits_of bytes)))

pub read_below : (bytes : List ℕ) (count left number : ℕ) → count ≤ 18 → IsRead bytes count left number → number < 10 ^ 18
read_below bytes count left number few r =
    rw r.is (decimal_below 18 (drop left (take count (digits_of bytes)))
    (omega (arith, length-drop left (take count (digits_of bytes)), length-take count (digits_of bytes))) r.all)

-- all the digits
pub take-digits : (bytes : List ℕ) → take (2 * length bytes) (digits_of bytes) ≡ digits_of bytes
take-digits bytes = take_all (2 * length bytes) (digits_of bytes) (omega (arith, length-digits_of bytes))
