-- A decimal text is a number of JSON.
use Rattle.std.proofs.Common.{◌≡◌, ℕ, ℤ, pos, negsuc, zero, suc, ◌+◌, ◌-◌, ◌/◌, ◌%◌, ◌^◌, ◌<◌, ◌≤◌, ◌==◌, nat_lt, Bool, true, false, cond, ◌&&◌, List, [], ◌∷◌, ◌++◌}
use Rattle.std.proofs.Common.{length, take, drop, get_or, replicate, Some, None, option_and_then, ◌⊎◌, inl, inr, refl, sym, ap, subst, ◌∙◌, arith, append_assoc, append-nil}
use Rattle.std.proofs.Common.{int_lt, unsigned_abs}
use Rattle.std.specs.Prelude.{codes}
use Rattle.std.specs.Fmt.{decimal, digits, digits_onto, digit_glyph}
use Rattle.std.specs.Char.{is_ascii_digit}
use Rattle.std.specs.List.{list_all, prefix_len}
use Rattle.std.proofs.lemmas.Bool.{and_parts, and_from, cond_both, ne_eqb, ltb-true, ltb-false}
use Rattle.std.proofs.lemmas.Bool.Decides.{nat_tests}
use Rattle.std.proofs.lemmas.Fmt.{decimal_by_steps_wide, decimal_is_IsNumeral_wide, decimal_digit}
use Rattle.std.proofs.lemmas.List.{length-append, length-drop}
use Rattle.std.proofs.lemmas.List.Folds.{list_all-append}
use Rattle.json.specs.Word.{head, after_digits, after_whole, after_fraction, after_exponent, after_minus, after_number}
use Rattle.json.specs.Print.{IsNumber}
use Rattle.full_text.specs.Decimals.{zeros, pointed, lengthened, scaled, sign_of, decimal_text}
use Rattle.full_text.specs.DecimalLaw.{behind_point}

abbrev AreDigits : List ℕ → Type 0
AreDigits ds = list_all is_ascii_digit ds ≡ true

-- one nought alone, or a first digit above it
abbrev Starts : List ℕ → Type 0
Starts ds = (ds ≡ 48 ∷ []) ⊎ (48 < get_or ds 0 0)

-- ---- what is read behind digits

prefix_whole : (ds rest : List ℕ) → AreDigits ds → is_ascii_digit (head rest) ≡ false → prefix_len is_ascii_digit (ds ++ rest) ≡ length ds
prefix_whole [] [] h stops = refl
prefix_whole [] (x ∷ rest) h stops = ap (λ b. cond b (1 + prefix_len is_ascii_digit rest) 0) stops
prefix_whole (d ∷ ds) rest h stops =
    let more : prefix_len is_ascii_digit (ds ++ rest) ≡ length ds = prefix_whole ds rest (and_parts _ _ h).1 stops in
    ap (λ b. cond b (1 + prefix_len is_ascii_digit (ds ++ rest)) 0) (and_parts _ _ h).0 ∙ omega arith

drop_seam : (ds rest : List ℕ) → drop (length ds) (ds ++ rest) ≡ rest
drop_seam [] rest = refl
drop_seam (d ∷ ds) rest = drop_seam ds rest

digits_read : (ds rest : List ℕ) → AreDigits ds → 0 < length ds → is_ascii_digit (head rest) ≡ false → after_digits (ds ++ rest) ≡ Some rest
digits_read ds rest h some stops =
    ap (λ k. cond (k == 0) None (Some (drop k (ds ++ rest)))) (prefix_whole ds rest h stops)
    ∙ ap (λ b. cond b None (Some (drop (length ds) (ds ++ rest)))) (ne_eqb (length ds) 0 (λ e. omega arith))
    ∙ ap Some (drop_seam ds rest)

whole_read : (ds rest : List ℕ) → AreDigits ds → Starts ds → is_ascii_digit (head rest) ≡ false
    → (after_whole (ds ++ rest) ≡ Some rest) × ((head (ds ++ rest) == 45) ≡ false)
whole_read ds rest h (inl e) stops = (ap (λ t. after_whole (t ++ rest)) e, ap (λ t. head (t ++ rest) == 45) e)
whole_read [] rest h (inr first) stops = absurd (omega arith)
whole_read (d ∷ ds) rest h (inr first) stops =
    let above : 48 < d = first in (
      ap (λ b. cond b (Some (ds ++ rest)) (after_digits (d ∷ (ds ++ rest)))) (ne_eqb d 48 (λ e. omega arith))
          ∙ digits_read (d ∷ ds) rest h (omega arith) stops,
      ne_eqb d 45 (λ e. omega arith),
    )

fraction_read : (behind : List ℕ) → AreDigits behind
    → (after_fraction (behind_point behind) ≡ Some []) × (is_ascii_digit (head (behind_point behind)) ≡ false)
fraction_read [] h = (refl, refl)
fraction_read (d ∷ ds) h = (
  ap after_digits (sym (append-nil (d ∷ ds))) ∙ digits_read (d ∷ ds) [] h (omega arith) refl,
  refl,
)

-- ---- numbers by their parts

record IsUnsigned (text : List ℕ) : Type 0 where
  pub whole : List ℕ
  pub behind : List ℕ
  pub text_is : text ≡ whole ++ behind_point behind
  pub digits : AreDigits whole
  pub starts : Starts whole
  pub places : AreDigits behind

unsigned_read : (text : List ℕ) → IsUnsigned text
    → (option_and_then after_exponent (option_and_then after_fraction (after_whole text)) ≡ Some []) × ((head text == 45) ≡ false)
unsigned_read text u =
    let fraction = fraction_read u.behind u.places in
    let read = whole_read u.whole (behind_point u.behind) u.digits u.starts fraction.1 in (
      ap (λ t. option_and_then after_exponent (option_and_then after_fraction (after_whole t))) u.text_is
          ∙ ap (λ o. option_and_then after_exponent (option_and_then after_fraction o)) read.0
          ∙ ap (λ o. option_and_then after_exponent o) fraction.0,
      ap (λ t. head t == 45) u.text_is ∙ read.1,
    )

signed_read : (minus : Bool) (text : List ℕ) → IsUnsigned text → IsNumber (cond minus (codes "-") [] ++ text)
unfolding after_number
signed_read true text u = (unsigned_read text u).0
signed_read false text u =
    let read = unsigned_read text u in
    ap (λ b. option_and_then after_exponent (option_and_then after_fraction (after_whole (cond b (drop 1 text) text)))) read.1 ∙ read.0

-- ---- the digits of a number

digits_pass : (k n : ℕ) (behind : List ℕ) → AreDigits behind → AreDigits (digits_onto k 10 false n behind)
digits_pass zero n behind h = h
digits_pass (suc k) n behind h =
    let one : List ℕ = digit_glyph false (n % 10) ∷ behind in
    let small : n % 10 < 10 = omega arith in
    let digit : is_ascii_digit (48 + n % 10) ≡ true = grind (arith, nat_tests) in
    let glyph : is_ascii_digit (digit_glyph false (n % 10)) ≡ true =
    cond_both (nat_lt (n % 10) 10) (48 + n % 10) (87 + n % 10) (λ b. is_ascii_digit b ≡ true) (λ _. digit)
    (λ past. absurd (omega (arith, ltb-false (n % 10) 10 past))) in
    let more : AreDigits one = and_from _ _ glyph h in
    cond_both (n / 10 == 0) one (digits_onto k 10 false (n / 10) one) AreDigits (λ _. more) (λ _. digits_pass k (n / 10) one more)

number_digits : (n : ℕ) → AreDigits (decimal n)
unfolding digits
number_digits n = digits_pass 64 n [] refl

some_digits : (n : ℕ) → n < 10 ^ 64 → 0 < length (decimal n)
some_digits n small = (decimal_is_IsNumeral_wide n small).0.0

first_joined : (ds more : List ℕ) → 0 < length ds → get_or (ds ++ more) 0 0 ≡ get_or ds 0 0
first_joined [] more some = absurd (omega arith)
first_joined (d ∷ ds) more some = refl

first_digit : (n : ℕ) → 0 < n → n < 10 ^ 64 → 48 < get_or (decimal n) 0 0
first_digit n some small =
    (decimal_by_steps_wide (λ m ds. (0 < length ds) × (0 < m → 48 < get_or ds 0 0)) (λ m l. (omega arith, λ a. omega arith))
    (λ m ds l h. (
      omega (arith, length-append ds ((48 + m % 10) ∷ [])),
      λ a. omega (arith, first_joined ds ((48 + m % 10) ∷ []) h.0, h.1 (omega arith)),
    )) n small).1 some

number_starts : (n : ℕ) → n < 10 ^ 64 → Starts (decimal n)
number_starts zero small = inl (decimal_digit 0 (omega arith))
number_starts (suc n) small = inr (first_digit (suc n) (omega arith) small)

zeros_digits : (n : ℕ) → AreDigits (zeros n)
zeros_digits zero = refl
zeros_digits (suc n) = zeros_digits n

digits_joined : (ds more : List ℕ) → AreDigits ds → AreDigits more → AreDigits (ds ++ more)
digits_joined ds more h k = list_all-append is_ascii_digit ds more ∙ and_from _ _ h k

digits_taken : (n : ℕ) (ds : List ℕ) → AreDigits ds → AreDigits (take n ds)
digits_taken zero ds h = refl
digits_taken (suc n) [] h = refl
digits_taken (suc n) (d ∷ ds) h = let parts = and_parts _ _ h in and_from _ _ parts.0 (digits_taken n ds parts.1)

digits_dropped : (n : ℕ) (ds : List ℕ) → AreDigits ds → AreDigits (drop n ds)
digits_dropped zero ds h = h
digits_dropped (suc n) [] h = refl
digits_dropped (suc n) (d ∷ ds) h = digits_dropped n ds (and_parts _ _ h).1

first_taken : (n : ℕ) (ds : List ℕ) → 0 < n → get_or (take n ds) 0 0 ≡ get_or ds 0 0
first_taken zero ds some = absurd (omega arith)
first_taken (suc n) [] some = refl
first_taken (suc n) (d ∷ ds) some = refl

point_some : (ds : List ℕ) → 0 < length ds → behind_point ds ≡ codes "." ++ ds
point_some [] some = absurd (omega arith)
point_some (d ∷ ds) some = refl

-- ---- a number times a power of ten

inside_starts : (n k : ℕ) → n < 10 ^ 64 → 0 < k → k < length (decimal n) → Starts (take (length (decimal n) - k) (decimal n))
inside_starts zero k small some within =
    let nought : length (decimal 0) ≡ 1 = ap length (decimal_digit 0 (omega arith)) in absurd (omega arith)
inside_starts (suc n) k small some within =
    let left : 0 < length (decimal (suc n)) - k = omega arith in
    inr (subst (λ d. 48 < d) (sym (first_taken (length (decimal (suc n)) - k) (decimal (suc n)) left)) (first_digit (suc n) (omega arith) small))

inside : (n k : ℕ) → n < 10 ^ 64 → 0 < k → k < length (decimal n)
    → IsUnsigned (take (length (decimal n) - k) (decimal n) ++ codes "." ++ drop (length (decimal n) - k) (decimal n))
inside n k small some within =
    let ds = decimal n in
    let left = take (length ds - k) ds in
    let right = drop (length ds - k) ds in
    let full : 0 < length right = omega (arith, length-drop (length ds - k) ds) in
    record {
      whole = left;
      behind = right;
      text_is = append_assoc left (codes ".") right ∙ ap (λ t. left ++ t) (sym (point_some right full));
      digits = digits_taken (length ds - k) ds (number_digits n);
      starts = inside_starts n k small some within;
      places = digits_dropped (length ds - k) ds (number_digits n);
    }

outside : (n count : ℕ) → n < 10 ^ 64 → IsUnsigned (codes "0." ++ zeros count ++ decimal n)
outside n count small =
    let behind = zeros count ++ decimal n in
    let full : 0 < length behind = omega (arith, length-append (zeros count) (decimal n), some_digits n small) in
    record {
      whole = codes "0";
      behind = behind;
      text_is = ap (λ t. codes "0" ++ t) (sym (point_some behind full));
      digits = refl;
      starts = inl refl;
      places = digits_joined (zeros count) (decimal n) (zeros_digits count) (number_digits n);
    }

pointed_is : (n k : ℕ) → n < 10 ^ 64 → 0 < k → IsUnsigned (pointed (decimal n) k)
unfolding pointed
pointed_is n k small some =
    cond_both (nat_lt k (length (decimal n))) _ _ IsUnsigned (λ is. inside n k small some (ltb-true k (length (decimal n)) is))
    (λ _. outside n (k - length (decimal n)) small)

whole_is : (ds : List ℕ) → AreDigits ds → Starts ds → IsUnsigned ds
whole_is ds h starts = record { whole = ds; behind = []; text_is = sym (append-nil ds); digits = h; starts = starts; places = refl }

long_starts : (n count : ℕ) → n < 10 ^ 64 → 0 < n → Starts (decimal n ++ zeros count)
long_starts n count small some =
    inr (subst (λ d. 48 < d) (sym (first_joined (decimal n) (zeros count) (some_digits n small))) (first_digit n some small))

lengthened_is : (n count : ℕ) → n < 10 ^ 64 → IsUnsigned (lengthened n count)
unfolding lengthened
lengthened_is zero count small = whole_is (decimal 0) (number_digits 0) (number_starts 0 small)
lengthened_is (suc m) count small =
    let n = suc m in
    let not_nought : (n == 0) ≡ false = grind (arith, nat_tests) in
    subst (λ b. IsUnsigned (cond b (decimal n) (decimal n ++ zeros count))) (sym not_nought)
    (whole_is (decimal n ++ zeros count) (digits_joined (decimal n) (zeros count) (number_digits n) (zeros_digits count))
    (long_starts n count small (omega arith)))

below_nought : (e : ℤ) → int_lt e (pos 0) ≡ true → 0 < unsigned_abs e
below_nought (pos m) is = grind (arith, nat_tests)
below_nought (negsuc m) is = omega arith

scaled_is : (n : ℕ) (exponent : ℤ) → n < 10 ^ 64 → IsUnsigned (scaled n exponent)
scaled_is n exponent small = cond_both (int_lt exponent (pos 0)) _ _ IsUnsigned
    (λ is. pointed_is n (unsigned_abs exponent) small (below_nought exponent is)) (λ _. lengthened_is n (unsigned_abs exponent) small)

pub IsNumber-decimal_text : (whole exponent : ℤ) → unsigned_abs whole < 10 ^ 64 → IsNumber (decimal_text whole exponent)
unfolding decimal_text
IsNumber-decimal_text whole exponent small = signed_read (int_lt whole (pos 0)) _ (scaled_is (unsigned_abs whole) exponent small)

pub IsNumber-count : (n : ℕ) → n < 10 ^ 64 → IsNumber (decimal n)
IsNumber-count n small = signed_read false (decimal n) (whole_is (decimal n) (number_digits n) (number_starts n small))
