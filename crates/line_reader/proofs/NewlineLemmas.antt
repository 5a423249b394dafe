-- Newlines in parts of bytes.
use Rattle.std.proofs.Common.{◌≡◌, ℕ, suc, ◌<◌, ◌≤◌, ◌+◌, ◌==◌, List, [], ◌∷◌, ◌++◌, length, take, drop, get_or, Bool, true, false, not, cond, Some, None, refl, ap, sym, subst, ◌∙◌, arith, append_assoc, eqb-true}
use Rattle.std.specs.Prelude.{position}
use Rattle.std.specs.List.{position_or_len}
use Rattle.lists.proofs.Choices.{none_if, some_if}
use Rattle.std.proofs.lemmas.Bool.{not-false}
use Rattle.std.proofs.lemmas.Bool.Decides.{nat_tests}
use Rattle.std.proofs.lemmas.List.{take-append-drop, take-append-le, take_all, drop_more, length-take, length-append}
use Rattle.std.proofs.lemmas.List.Sums.{sum_by-append, prefix_len_stops, fails_before_first}
use Rattle.line_reader.specs.Newlines.{newlines}
use Rattle.line_reader.specs.Reading.{BeginsWithLine}

abbrev pub is_newline : ℕ → Bool
is_newline b = b == 10

pub newlines-append : (a b : List ℕ) → newlines (a ++ b) ≡ newlines a + newlines b
newlines-append a b = sum_by-append (λ x. cond (is_newline x) 1 0) a b

pub newlines-take : (n : ℕ) (a : List ℕ) → newlines a ≡ 0 → newlines (take n a) ≡ 0
newlines-take n a none =
    let parts = sym (newlines-append (take n a) (drop n a)) ∙ ap newlines (take-append-drop n a) in
    omega arith

pub newlines-drop : (n : ℕ) (a : List ℕ) → newlines a ≡ 0 → newlines (drop n a) ≡ 0
newlines-drop n a none =
    let parts = sym (newlines-append (take n a) (drop n a)) ∙ ap newlines (take-append-drop n a) in
    omega arith

pub newlines-both : (a b : List ℕ) → newlines a ≡ 0 → newlines b ≡ 0 → newlines (a ++ b) ≡ 0
newlines-both a b none none' = let parts = newlines-append a b in omega arith

pub newlines-of_parts : (n : ℕ) (a : List ℕ) → newlines (take n a) ≡ 0 → newlines (drop n a) ≡ 0 → newlines a ≡ 0
newlines-of_parts n a none none' = ap newlines (sym (take-append-drop n a)) ∙ newlines-both (take n a) (drop n a) none none'

-- in front of the first newline there is none
front_alone : (xs : List ℕ) → newlines (take (position_or_len is_newline xs) xs) ≡ 0
front_alone [] = refl
front_alone (x ∷ xs) = by_test (is_newline x) refl (front_alone xs)
  where
    by_test : (b : Bool) → is_newline x ≡ b → newlines (take (position_or_len is_newline xs) xs) ≡ 0
        → newlines (take (cond (not b) (1 + position_or_len is_newline xs) 0) (x ∷ xs)) ≡ 0
    by_test true is none = refl
    by_test false is none =
        let one : 1 + position_or_len is_newline xs ≡ suc (position_or_len is_newline xs) = omega arith in
        ap (λ n. newlines (take n (x ∷ xs))) one
        ∙ newlines-both (x ∷ []) (take (position_or_len is_newline xs) xs) (ap (λ b. 0 + cond b 1 0) is) none

pub no_place : (xs : List ℕ) → position is_newline xs ≡ None → newlines xs ≡ 0
no_place xs none =
    let past : length xs ≤ position_or_len is_newline xs = let test = none_if _ _ none in grind (arith, nat_tests) in
    ap newlines (sym (take_all (position_or_len is_newline xs) xs past)) ∙ front_alone xs

pub no_newline_at : (xs : List ℕ) (k : ℕ) → position is_newline xs ≡ None → k < length xs → is_newline (get_or xs k 0) ≡ false
no_newline_at xs k none within =
    let past : length xs ≤ position_or_len is_newline xs = let test = none_if _ _ none in grind (arith, nat_tests) in
    fails_before_first is_newline xs k 0 (omega arith)

pub first_place : (xs : List ℕ) (i : ℕ) → position is_newline xs ≡ Some i → BeginsWithLine xs (i + 1)
first_place xs i found =
    let parts = some_if _ _ _ found in
    let within : position_or_len is_newline xs < length xs = let test = parts.0 in grind (arith, nat_tests) in
    let here : i < length xs = let same = parts.1 in omega arith in
    let newline : get_or xs i 0 ≡ 10 =
    ap (λ n. get_or xs n 0) (sym parts.1) ∙ eqb-true _ _ (not-false _ (prefix_len_stops (λ x. not (is_newline x)) xs 0 within)) in
    let first : length (take i xs) ≡ i = simp length-take (omega arith) in
    record {
      front = take i xs;
      rest = drop (i + 1) xs;
      cut = sym (take-append-drop i xs) ∙ ap (λ y. take i xs ++ y) (drop_more xs i 0 here)
          ∙ ap (λ b. take i xs ++ b ∷ drop (i + 1) xs) newline;
      alone = ap (λ n. newlines (take n xs)) (sym parts.1) ∙ front_alone xs;
      long = ap (λ n. n + 1) (sym first);
    }

-- bytes without a newline in front of a line
pub line_behind : (a b : List ℕ) (count : ℕ) → newlines a ≡ 0 → BeginsWithLine b count → BeginsWithLine (a ++ b) (length a + count)
line_behind a b count none line = record {
  front = a ++ line.front;
  rest = line.rest;
  cut = ap (λ x. a ++ x) line.cut ∙ sym (append_assoc a line.front (10 ∷ line.rest));
  alone = newlines-both a line.front none line.alone;
  long = let more = length-append a line.front in let long = line.long in omega arith;
}

-- less than a line
pub short_of_line : (bytes : List ℕ) (count n : ℕ) → BeginsWithLine bytes count → n < count → newlines (take n bytes) ≡ 0
short_of_line bytes count n line short =
    let within : n ≤ length line.front = let long = line.long in omega arith in
    ap (λ x. newlines (take n x)) line.cut ∙ ap newlines (take-append-le n line.front (10 ∷ line.rest) within)
    ∙ newlines-take n line.front line.alone

-- the first newline behind bytes that have none
pub line_in_rest : (bytes : List ℕ) (searched place count : ℕ) → count ≡ searched + place + 1 → searched ≤ length bytes
    → newlines (take searched bytes) ≡ 0 → position is_newline (drop searched bytes) ≡ Some place → BeginsWithLine bytes count
line_in_rest bytes searched place count is within none found =
    let line = line_behind (take searched bytes) (drop searched bytes) (place + 1) none (first_place (drop searched bytes) place found) in
    let count_is : length (take searched bytes) + (place + 1) ≡ count = simp length-take (omega arith) in
    subst (λ b. BeginsWithLine b count) (take-append-drop searched bytes)
    (subst (λ n. BeginsWithLine (take searched bytes ++ drop searched bytes) n) count_is line)
