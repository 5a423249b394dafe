-- The value of plain digits.
use Rattle.std.proofs.Common.{◌≡◌, ◌≢◌, inl, inr, ℕ, zero, suc, ◌<◌, ◌≤◌, ◌+◌, ◌-◌, ◌*◌, ◌^◌, ◌==◌, ◌&&◌, ◌||◌, List, length, take, get_or, Bool, true, false, not, cond, Option, Some, None, ap, sym, ◌∙◌, arith, nat_lt, nat_le, rules}
use Rattle.std.specs.Prelude.{MatchOption}
use Rattle.std.specs.Char.{is_ascii_digit, digit_value}
use Rattle.std.specs.Fmt.{decimal}
use Rattle.std.specs.List.{list_all}
use Rattle.std.specs.Str.Parse.{digits_value}
use Rattle.std.proofs.lemmas.Bool.{and_from, and_parts, cases_eq, cond-false, eq-eqb, lt-ltb, ne_eqb, not_from_false, or_left, or_right, leb-true, leb-false, lt-leb}
use Rattle.std.proofs.lemmas.Bool.Decides.{nat_tests}
use Rattle.std.proofs.lemmas.Int.Digits.{digits_value_more}
use Rattle.std.proofs.lemmas.Str.Parse.{digits_value-take-le, IsNumeralModel, numerals_by_value, digit_at}
use Rattle.std.proofs.lemmas.Fmt.{digits_decimal, digits_value-decimal, decimal-digits_value, decimal_digit, decimal_nonempty, first_decimal}
use Rattle.lists.proofs.Choices.{none_if, some_if}
use Rattle.plain_text.specs.Numbers.{is_plain, number_of}

own : IsNumeralModel (λ ds. list_all is_ascii_digit ds ≡ true) (digits_value 10)
own = numerals_by_value _ (search rules)

digit_is : (c : ℕ) → 48 ≤ c → c ≤ 57 → digit_value c ≡ c - 48
digit_is c low high = grind (arith, nat_tests)

-- one more digit
next_value : (ds : List ℕ) (i : ℕ) → list_all is_ascii_digit ds ≡ true → i < length ds
    → digits_value 10 (take (i + 1) ds) ≡ digits_value 10 (take i ds) * 10 + (get_or ds i 0 - 48)
next_value ds i all within =
    let digit = digit_at ds i (own.to ds all) within in
    let same : digit_value (get_or ds i 0) ≡ get_or ds i 0 - 48 = digit_is (get_or ds i 0) digit.0 digit.1 in
    digits_value_more 10 ds i within ∙ ap (λ d. digits_value 10 (take i ds) * 10 + d) same

some_le : (n most v : ℕ) → cond (nat_le n most) (Some n) None ≡ Some v → (v ≡ n) × (v ≤ most)
some_le n most v e = let parts = some_if (nat_le n most) n v e in (cc, let low = leb-true n most parts.0 in omega arith)

none_le : (n most : ℕ) → cond (nat_le n most) (Some n) None ≡ None → most < n
none_le n most e = leb-false n most (none_if (nat_le n most) n e)

-- a digit that is taken, and one that makes the value too large
pub taken : (ds : List ℕ) (i v most w : ℕ) (r : Option ℕ) → list_all is_ascii_digit ds ≡ true → i < length ds
    → v ≡ digits_value 10 (take i ds) → r ≡ cond (nat_le (v * 10 + (get_or ds i 0 - 48)) most) (Some (v * 10 + (get_or ds i 0 - 48))) None
    → r ≡ Some w
    → (w ≡ digits_value 10 (take (i + 1) ds)) × (w ≤ most)
taken ds i v most w r all within is given some =
    let parts = some_le (v * 10 + (get_or ds i 0 - 48)) most w (sym given ∙ some) in
    (parts.0 ∙ ap (λ n. n * 10 + (get_or ds i 0 - 48)) is ∙ sym (next_value ds i all within), parts.1)

pub too_large : (ds : List ℕ) (i v most : ℕ) (r : Option ℕ) → list_all is_ascii_digit ds ≡ true → i < length ds
    → v ≡ digits_value 10 (take i ds) → r ≡ cond (nat_le (v * 10 + (get_or ds i 0 - 48)) most) (Some (v * 10 + (get_or ds i 0 - 48))) None
    → r ≡ None
    → None ≡ cond (nat_le (digits_value 10 ds) most) (Some (digits_value 10 ds)) None
too_large ds i v most r all within is given none =
    let large = none_le (v * 10 + (get_or ds i 0 - 48)) most (sym given ∙ none) in
    let next = next_value ds i all within in
    let front = digits_value-take-le 10 ds (i + 1) (omega arith) in
    let same = ap (λ n. n * 10 + (get_or ds i 0 - 48)) is in
    sym (cond-false (nat_le (digits_value 10 ds) most) _ _ (lt-leb _ _ (omega arith)))

-- the number of a plain text, and of any other
pub plain_number : (most : ℕ) (text : List ℕ) → is_plain text ≡ true
    → cond (nat_le (digits_value 10 text) most) (Some (digits_value 10 text)) None ≡ number_of most text
unfolding number_of
plain_number most text h = ap (λ b. cond (b && nat_le (digits_value 10 text) most) (Some (digits_value 10 text)) None) (sym h)

pub no_number : (most : ℕ) (text : List ℕ) → is_plain text ≡ false → None ≡ number_of most text
unfolding number_of
no_number most text h = ap (λ b. cond (b && nat_le (digits_value 10 text) most) (Some (digits_value 10 text)) None) (sym h)

-- plain texts are what is written for numbers
lead : (l f : ℕ) → 0 < l → (f ≡ 48 → l ≡ 1) → (l == 1 || nat_lt 1 l && not (f == 48)) ≡ true
lead l f some first = elim (cases_eq l 1) [
  | inl one ↦ or_left (l == 1) _ (eq-eqb l 1 one)
  | inr more ↦ or_right (l == 1) _ (and_from (nat_lt 1 l) _ (lt-ltb 1 l (omega arith))
      (not_from_false (f == 48) (ne_eqb f 48 (λ is. more (first is)))))
]

led : (l f : ℕ) → (l == 1 || nat_lt 1 l && not (f == 48)) ≡ true → (0 < l) × (f ≡ 48 → l ≡ 1)
led l f h = (grind (arith, nat_tests), λ zero. grind (arith, nat_tests))

plain_decimal : (n : ℕ) → n < 2 ^ 64 → is_plain (decimal n) ≡ true
plain_decimal n small =
    let no_zero : get_or (decimal n) 0 0 ≡ 48 → length (decimal n) ≡ 1 = λ zero. one n small zero in
    ap (λ b. b && (length (decimal n) == 1 || nat_lt 1 (length (decimal n)) && not (get_or (decimal n) 0 0 == 48)))
    (digits_decimal own n small)
    ∙ lead (length (decimal n)) (get_or (decimal n) 0 0) (decimal_nonempty n small) no_zero
  where
    one : (n : ℕ) → n < 2 ^ 64 → get_or (decimal n) 0 0 ≡ 48 → length (decimal n) ≡ 1
    one zero small zero_first = ap length (decimal_digit 0 (omega arith))
    one (suc n) small zero_first = absurd (omega (arith, first_decimal (suc n) (omega arith) small))

decimal_of_plain : (text : List ℕ) → is_plain text ≡ true → digits_value 10 text < 2 ^ 64 → text ≡ decimal (digits_value 10 text)
decimal_of_plain text plain small =
    let parts = and_parts _ _ plain in
    let front = led (length text) (get_or text 0 0) parts.1 in
    sym (decimal-digits_value own text parts.0 front.0 front.1 small)

pub written : (most : ℕ) (text : List ℕ) → most < 2 ^ 64 → (b : Bool) → is_plain text ≡ b → (r : Option ℕ)
    → r ≡ cond (b && nat_le (digits_value 10 text) most) (Some (digits_value 10 text)) None
    → MatchOption r ((n : ℕ) → n ≤ most → text ≢ decimal n) (λ n. (n ≤ most) × (text ≡ decimal n))
written most text small false plain None is =
    λ n low same. absurd (let e = sym plain ∙ ap is_plain same ∙ plain_decimal n (omega arith) in cc)
written most text small false plain (Some n) is = absurd cc
written most text small true plain None is = λ n low same.
    let large = none_le (digits_value 10 text) most (sym is) in
    let value = ap (digits_value 10) same ∙ digits_value-decimal own n (omega arith) in
    omega arith
written most text small true plain (Some n) is =
    let parts = some_le (digits_value 10 text) most n (sym is) in
    (parts.1, decimal_of_plain text plain (omega arith) ∙ ap decimal (sym parts.0))
