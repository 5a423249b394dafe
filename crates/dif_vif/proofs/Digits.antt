-- Numbers by their digits: how large they are, and one digit more.
use Rattle.std.proofs.Common.{⊎_elim, ◌≡◌, ℕ, suc, ◌+◌, ◌-◌, ◌*◌, ◌/◌, ◌%◌, ◌^◌, ◌<◌, ◌≤◌, List, [], ◌∷◌, ◌++◌, reverse, length, get_or, drop, map, refl, ap, ◌∙◌, arith}
use Rattle.std.proofs.Math.Nat.{pow-le-pow_right, pow-le-pow_left, pow-zero, pow-succ', mul-le-mul_left}
use Rattle.std.proofs.lemmas.Bool.{cases_lt}
use Rattle.std.proofs.lemmas.List.{drop_more, reverse-append, length-drop, length-map, get_or-map, get_or_past}
use Rattle.std.proofs.lemmas.Nat.{mul-le}
use Rattle.std.specs.Int.Digits.{number_from_digits}
use Rattle.std.proofs.lemmas.Int.Digits.{number_push}
use Rattle.dif_vif.specs.Numbers.{low_first}

one_more : (base digit number power : ℕ) → digit < base → number < power → digit + base * number < base * power
one_more base digit number power d n = omega (arith, mul-le-mul_left base n)

-- digits below the base give a number below its power
pub low_first-below : (base : ℕ) (xs : List ℕ) → ((i : ℕ) → get_or xs i 0 < base) → low_first base xs < base ^ length xs
low_first-below base [] below = omega (arith, pow-zero base)
low_first-below base (x ∷ xs) below =
    rw (pow-succ' base (length xs)) (one_more base x (low_first base xs) (base ^ length xs) (below 0)
    (low_first-below base xs (λ i. below (suc i))))

-- a number of at most so many digits
pub low_first-few : (base most : ℕ) (xs : List ℕ) → 0 < base → length xs ≤ most → ((i : ℕ) → get_or xs i 0 < base)
    → low_first base xs < base ^ most
low_first-few base most xs some few below = omega (arith, low_first-below base xs below, pow-le-pow_right some few)

-- one element more, from the back
pub drop-before : (xs : List ℕ) (left : ℕ) → 0 < left → left ≤ length xs → drop (left - 1) xs ≡ get_or xs (left - 1) 0 ∷ drop left xs
drop-before xs left some within =
    let back : left - 1 + 1 ≡ left = omega arith in
    drop_more xs (left - 1) 0 (omega arith) ∙ ap (λ (k : ℕ). get_or xs (left - 1) 0 ∷ drop k xs) back

-- ---- the digits of extensions

digit_below : (base lowest : ℕ) (xs : List ℕ) → 0 < base → (i : ℕ) → get_or (map (λ x. x / lowest % base) xs) i 0 < base
digit_below base lowest xs some i =
    ⊎_elim (λ lt. rw (get_or-map (λ x. x / lowest % base) xs i 0 0 lt) (omega arith))
    (λ le. rw (get_or_past (map (λ x. x / lowest % base) xs) i 0 (omega (arith, length-map xs (λ x. x / lowest % base)))) some)
    (cases_lt i (length xs))

-- the number of the digits from a place on, of at most ten
pub number_bound : (base lowest : ℕ) (xs : List ℕ) (left number : ℕ) → 0 < base → length xs ≤ 10
    → number ≡ low_first base (map (λ x. x / lowest % base) (drop left xs)) → number < base ^ 10
number_bound base lowest xs left number some few is =
    rw is (low_first-few base 10 (map (λ x. x / lowest % base) (drop left xs)) some
    (omega (arith, length-map (drop left xs) (λ x. x / lowest % base), length-drop left xs)) (digit_below base lowest (drop left xs) some))

pub times_base : (base number : ℕ) → base ≤ 16 → number < base ^ 10 → number * base ≤ 2 ^ 44
times_base base number small h =
    let below : number ≤ 2 ^ 40 = omega (arith, pow-le-pow_left small 10) in
    omega (arith, mul-le number base (2 ^ 40) 16 below small)

-- the lowest digit needs no division
pub low_first-by_one : (base : ℕ) (xs : List ℕ) → low_first base (map (λ x. x / 1 % base) xs) ≡ low_first base (map (λ x. x % base) xs)
low_first-by_one base [] = refl
low_first-by_one base (x ∷ xs) =
    let same : x / 1 ≡ x = omega arith in
    rw (same, low_first-by_one base xs) refl

-- ---- digits in reverse

pub low_first-reverse : (base : ℕ) (digits : List ℕ) → low_first base digits ≡ number_from_digits base (reverse digits)
low_first-reverse base [] = refl
low_first-reverse base (digit ∷ digits) =
    let turned : reverse (digit ∷ digits) ≡ reverse digits ++ digit ∷ [] = reverse-append (digit ∷ []) digits in
    let pushed : number_from_digits base (reverse digits ++ digit ∷ []) ≡ number_from_digits base (reverse digits) * base + digit =
    number_push base (reverse digits) digit in
    rw (turned, pushed, ← low_first-reverse base digits) (omega arith)
