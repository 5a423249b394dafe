-- The decimal text of a number is that number.
use Rattle.std.proofs.Common.{◌≡◌, ℕ, zero, suc, ◌+◌, ◌-◌, ◌*◌, ◌^◌, ◌<◌, ◌≤◌, ◌==◌, true, false, cond, List, [], ◌∷◌, ◌++◌, length, take, drop, ℤ, refl, sym, ap, subst, ◌∙◌, inl, inr, append_assoc, arith, unsigned_abs, int_lt, pos, negsuc, codes, nat_lt, decimal}
use Rattle.std.specs.Char.{digit_value}
use Rattle.std.specs.Str.Parse.{digits_value, digits_value_after}
use Rattle.std.proofs.Math.Nat.{mul_assoc, pow-succ', zero-mul}
use Rattle.std.proofs.lemmas.Bool.{cases_Bool, cond_both, ltb-true, ltb-false}
use Rattle.std.proofs.lemmas.Bool.Decides.{nat_tests}
use Rattle.std.proofs.lemmas.Fmt.{decimal_is_IsNumeral_wide}
use Rattle.std.proofs.lemmas.List.{append-nil, length-append, length-take, length-drop, length-replicate, take-append-drop}
use Rattle.full_text.specs.Decimals.{zeros, pointed, lengthened, scaled, sign_of, decimal_text}
use Rattle.full_text.specs.DecimalLaw.{above, below, behind_point, DecimalsAreExact}

-- ---- digits behind digits

after-append : (n : ℕ) (xs ys : List ℕ) → digits_value_after 10 n (xs ++ ys) ≡ digits_value_after 10 (digits_value_after 10 n xs) ys
after-append n [] ys = refl
after-append n (x ∷ xs) ys = after-append (n * 10 + digit_value x) xs ys

zeros_front : (k : ℕ) (ds : List ℕ) → digits_value_after 10 0 (zeros k ++ ds) ≡ digits_value_after 10 0 ds
zeros_front zero ds = refl
zeros_front (suc k) ds = zeros_front k ds

zeros_behind : (k n : ℕ) → digits_value_after 10 n (zeros k) ≡ n * 10 ^ k
zeros_behind zero n = omega arith
zeros_behind (suc k) n =
    let ten : n * 10 + digit_value 48 ≡ n * 10 = omega arith in
    zeros_behind k (n * 10 + digit_value 48) ∙ ap (λ m. m * 10 ^ k) ten ∙ mul_assoc n 10 (10 ^ k) ∙ ap (λ p. n * p) (sym (pow-succ' 10 k))

-- ---- a text of digits and a point

-- digits, which without the point write a value, and how many stand behind the point
record Parts (text : List ℕ) (value places : ℕ) : Type 0 where
  pub whole : List ℕ
  pub behind : List ℕ
  pub text_is : text ≡ whole ++ behind_point behind
  pub some : 0 < length whole
  pub value_is : digits_value 10 (whole ++ behind) ≡ value
  pub places_is : length behind ≡ places

point_some : (digits : List ℕ) → 0 < length digits → behind_point digits ≡ codes "." ++ digits
point_some [] some = absurd (omega arith)
point_some (digit ∷ digits) some = refl

numeral : (n : ℕ) → n < 10 ^ 64 → digits_value 10 (decimal n) ≡ n
numeral n small = (decimal_is_IsNumeral_wide n small).1

some_digits : (n : ℕ) → n < 10 ^ 64 → 0 < length (decimal n)
some_digits n small = (decimal_is_IsNumeral_wide n small).0.0

inside : (n k : ℕ) (digits : List ℕ) → digits_value 10 digits ≡ n → 0 < k → k < length digits
    → Parts (take (length digits - k) digits ++ codes "." ++ drop (length digits - k) digits) n k
inside n k digits value some within =
    let left = take (length digits - k) digits in
    let right = drop (length digits - k) digits in
    let long : length right ≡ k = omega (arith, length-drop (length digits - k) digits) in
    let full : 0 < length right = omega arith in
    record {
      whole = left;
      behind = right;
      text_is = append_assoc left (codes ".") right ∙ ap (λ t. left ++ t) (sym (point_some right full));
      some = omega (arith, length-take (length digits - k) digits);
      value_is = ap (digits_value 10) (take-append-drop (length digits - k) digits) ∙ value;
      places_is = long;
    }

outside : (n k : ℕ) (digits : List ℕ) → digits_value 10 digits ≡ n → 0 < length digits → length digits ≤ k
    → Parts (codes "0." ++ zeros (k - length digits) ++ digits) n k
outside n k digits value some few =
    let behind = zeros (k - length digits) ++ digits in
    let front : length (zeros (k - length digits)) ≡ k - length digits = length-replicate (k - length digits) 48 in
    let long : length behind ≡ k = omega (arith, length-append (zeros (k - length digits)) digits, front) in
    let full : 0 < length behind = omega arith in
    record {
      whole = codes "0";
      behind = behind;
      text_is = ap (λ t. codes "0" ++ t) (sym (point_some behind full));
      some = omega arith;
      value_is = zeros_front (k - length digits) digits ∙ value;
      places_is = long;
    }

pointed_parts : (n k : ℕ) → n < 10 ^ 64 → 0 < k → Parts (pointed (decimal n) k) n k
unfolding pointed
pointed_parts n k small some =
    cond_both (nat_lt k (length (decimal n))) _ _ (λ t. Parts t n k)
    (λ is. inside n k (decimal n) (numeral n small) some (ltb-true k (length (decimal n)) is))
    (λ is. outside n k (decimal n) (numeral n small) (some_digits n small) (ltb-false k (length (decimal n)) is))

lengthened_parts : (n k : ℕ) → n < 10 ^ 64 → Parts (lengthened n k) (n * 10 ^ k) 0
unfolding lengthened
lengthened_parts zero k small = record {
  whole = decimal 0;
  behind = [];
  text_is = sym (append-nil (decimal 0));
  some = some_digits 0 small;
  value_is = ap (digits_value 10) (append-nil (decimal 0)) ∙ numeral 0 small ∙ sym (zero-mul (10 ^ k));
  places_is = refl;
}
lengthened_parts (suc m) k small =
    let n = suc m in
    let long = decimal n ++ zeros k in
    let not_nought : (n == 0) ≡ false = grind (arith, nat_tests) in
    record {
      whole = long;
      behind = [];
      text_is = ap (λ b. cond b (decimal n) long) not_nought ∙ sym (append-nil long);
      some = omega (arith, length-append (decimal n) (zeros k), some_digits n small);
      value_is = ap (digits_value 10) (append-nil long) ∙ after-append 0 (decimal n) (zeros k)
          ∙ zeros_behind k (digits_value 10 (decimal n)) ∙ ap (λ v. v * 10 ^ k) (numeral n small);
      places_is = refl;
    }

-- ---- the law

below_nought : (e : ℤ) → int_lt e (pos 0) ≡ true → 0 < unsigned_abs e
below_nought (pos m) is = grind (arith, nat_tests)
below_nought (negsuc m) is = omega arith

scaled_parts : (n : ℕ) (exponent : ℤ) → n < 10 ^ 64 → Parts (scaled n exponent) (n * 10 ^ above exponent) (below exponent)
scaled_parts n exponent small =
    let k = unsigned_abs exponent in
    let once : n ≡ n * 10 ^ 0 = omega arith in
    elim (cases_Bool (int_lt exponent (pos 0))) [
      | inl is ↦ rw is (subst (λ v. Parts (pointed (decimal n) k) v k) once (pointed_parts n k small (below_nought exponent is)))
      | inr is ↦ rw is (lengthened_parts n k small)
    ]

pub decimals_exact : DecimalsAreExact
unfolding decimal_text
decimals_exact number exponent small =
    let p = scaled_parts (unsigned_abs number) exponent small in
    record {
      whole = p.whole;
      behind = p.behind;
      text_is = ap (λ t. sign_of number ++ t) p.text_is;
      some = p.some;
      value = p.value_is;
      places = p.places_is;
    }
