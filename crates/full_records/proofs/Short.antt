-- Numbers of at most 128 bits.
use Rattle.std.proofs.Common.{◌≡◌, ℕ, ◌^◌, ◌<◌, ◌≤◌, Option, Some, None, sym, ap, ◌∙◌, arith, ℤ, pos, negsuc, SomeIff, FitsSigned, nat_lt}
use Rattle.std.specs.Int.{w128}
use Rattle.std.proofs.lemmas.Bool.{lt-ltb, le-ltb, cond-true, cond-false}
use Rattle.full_records.specs.Powers.{short}

not_below : (n m : ℕ) → (n < m → ⊥) → m ≤ n
not_below n m not = omega (arith, not)

-- what a checked operation answers
pub short_is : (z : ℤ) (r : Option ℤ) → SomeIff r (FitsSigned w128 z) z → r ≡ short z
short_is (pos n) (Some x) s = ap Some s.1 ∙ sym (cond-true (nat_lt n (2 ^ 127)) _ _ (lt-ltb n (2 ^ 127) s.0.sfits))
short_is (negsuc n) (Some x) s = ap Some s.1 ∙ sym (cond-true (nat_lt n (2 ^ 127)) _ _ (lt-ltb n (2 ^ 127) s.0.sfits))
short_is (pos n) None s =
    sym (cond-false (nat_lt n (2 ^ 127)) _ _ (le-ltb n (2 ^ 127) (not_below n (2 ^ 127) (λ b. s (record { sfits = b })))))
short_is (negsuc n) None s =
    sym (cond-false (nat_lt n (2 ^ 127)) _ _ (le-ltb n (2 ^ 127) (not_below n (2 ^ 127) (λ b. s (record { sfits = b })))))
