-- The table of digits is the definition's, and what two digits give.
use Rattle.std.proofs.Common.{◌≡◌, ℕ, zero, suc, ◌<◌, ◌==◌, ◌&&◌, Bool, true, get_or, Option, Some, None, Result, Ok, Err, unwrap_or, refl, inl, inr, arith}
use Rattle.std.proofs.lemmas.Bool.{and_parts, cases_eq, eqb-true}
use Rattle.std.specs.Result.{result_ok}
use Rattle.hex.specs.Hex.{hex_digit_value}
use Rattle.hex.specs.declared.error.FromHexError.{FromHexError}
use Rattle.line_reader.specs.declared.digits.TheConstants.{DIGIT_VALUES}

-- two functions are equal at each number below n
unfoldable equal_below : ℕ → (ℕ → ℕ) → (ℕ → ℕ) → Bool
equal_below zero f g = true
equal_below (suc n) f g = f n == g n && equal_below n f g

at_each_below : (n : ℕ) (f g : ℕ → ℕ) → equal_below n f g ≡ true → (k : ℕ) → k < n → f k ≡ g k
unfolding equal_below
at_each_below zero f g h k lt = absurd (omega arith)
at_each_below (suc n) f g h k lt =
    let both = and_parts (f n == g n) (equal_below n f g) h in
    elim (cases_eq k n) [
      | inl e ↦ rw e (eqb-true (f n) (g n) both.0)
      | inr ne ↦ at_each_below n f g both.1 k (omega arith)
    ]

digit_values_are_table : equal_below 256 (λ k. get_or DIGIT_VALUES k 0) (λ k. unwrap_or (hex_digit_value k) 256) ≡ true
unfolding equal_below
digit_values_are_table = refl

pub digit_value_at : (b : ℕ) → b < 256 → get_or DIGIT_VALUES b 0 ≡ unwrap_or (hex_digit_value b) 256
digit_value_at = at_each_below 256 (λ k. get_or DIGIT_VALUES k 0) (λ k. unwrap_or (hex_digit_value k) 256) digit_values_are_table

-- what a byte, or none, says of the pair of digits
pub pair_read : (r : Result ℕ FromHexError) (o : Option ℕ) (v : ℕ) → o ≡ result_ok r → o ≡ Some v → r ≡ Ok v
pair_read (Ok w) o v is some = cc
pair_read (Err e) o v is some = cc

pub pair_refused : (r : Result ℕ FromHexError) (o : Option ℕ) → o ≡ result_ok r → o ≡ None → (e : FromHexError) × (r ≡ Err e)
pair_refused (Ok w) o is none = absurd cc
pair_refused (Err e) o is none = (e, refl)
