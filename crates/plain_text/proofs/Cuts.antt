-- A list that is cut at the first element which passes a test.
use Rattle.std.proofs.Common.{◌≡◌, ℕ, zero, suc, ◌<◌, ◌≤◌, ◌+◌, ◌==◌, List, [], ◌∷◌, length, take, drop, Bool, true, false, not, cond, Option, Some, None, refl, ap, sym, ◌∙◌, arith}
use Rattle.std.specs.Prelude.{position}
use Rattle.std.specs.List.{slice_split, onto_first, position_or_len, AllByRecursion, count_by}
use Rattle.std.specs.Str.Lines.{lines, lines_of_parts, strip_carriage_return}
use Rattle.lists.proofs.Choices.{none_if, some_if}
use Rattle.memchr.specs.Find.{IsFirstByte, is_byte}
use Rattle.std.proofs.lemmas.Bool.{false_from_ne_true, not-true}
use Rattle.std.proofs.lemmas.Bool.Decides.{nat_tests}
use Rattle.std.proofs.lemmas.List.{drop-drop}
use Rattle.std.proofs.lemmas.List.Sums.{prefix_len_passes, position_or_len_is, count_by-le-length}
use Rattle.std.proofs.lemmas.List.Splits.{slice_split_none, slice_split_first, length-slice_split}

place_if : (p : ℕ → Bool) (xs : List ℕ) (i : ℕ) → position_or_len p xs ≡ i → i < length xs → Some i ≡ position p xs
place_if p xs i is within = rw is (grind (arith, nat_tests))

-- what a search for the first separator found
pub place_of_first : (separator : ℕ) (xs : List ℕ) (r : Option ℕ) → IsFirstByte (is_byte separator) xs r
    → r ≡ position (λ b. b == separator) xs
place_of_first separator xs None h =
    let past : position_or_len (λ b. b == separator) xs ≡ length xs =
    position_or_len_is _ xs (length xs) 0 (omega arith) (λ k within. false_from_ne_true _ (h k (omega arith) within))
    (λ within. absurd (omega arith)) in
    rw past (grind (arith, nat_tests))
place_of_first separator xs (Some i) h =
    let before = h.0 in
    let at : position_or_len (λ b. b == separator) xs ≡ i =
    position_or_len_is _ xs i 0 (omega arith) (λ k below. false_from_ne_true _ (before.before k (omega arith) below)) (λ _. h.1) in
    place_if _ xs i at before.high

pub cut_none : {X : Type 0} (p : X → Bool) (xs : List X) → position p xs ≡ None → slice_split p xs ≡ xs ∷ []
cut_none p xs h =
    let past : length xs ≤ position_or_len p xs = let test = none_if _ _ h in grind (arith, nat_tests) in
    slice_split_none p xs (λ k d within. not-true _ (prefix_len_passes (λ x. not (p x)) xs k d (omega arith)))

pub cut_at : {X : Type 0} (p : X → Bool) (xs : List X) (i : ℕ) → position p xs ≡ Some i → (d : X)
    → slice_split p xs ≡ take i xs ∷ slice_split p (drop 1 (drop i xs))
cut_at p xs i h d =
    let found = some_if _ _ _ h in
    let within : position_or_len p xs < length xs = let test = found.0 in grind (arith, nat_tests) in
    slice_split_first p xs d within ∙ ap (λ n. take n xs ∷ slice_split p (drop (n + 1) xs)) found.1
    ∙ ap (λ ys. take i xs ∷ slice_split p ys) (sym (drop-drop 1 i xs))

-- the lines of a text that is cut at its first newline, and of one without a newline

pub lines_cut : (text line rest : List ℕ) → slice_split (λ b. b == 10) text ≡ line ∷ slice_split (λ b. b == 10) rest
    → lines text ≡ strip_carriage_return line ∷ lines rest
lines_cut text line rest h =
    ap lines_of_parts h ∙ behind (slice_split (λ b. b == 10) rest) (length-slice_split (λ b. b == 10) rest)
  where
    behind : (parts : List (List ℕ)) → length parts ≡ count_by (λ b. b == 10) rest + 1
        → lines_of_parts (line ∷ parts) ≡ strip_carriage_return line ∷ lines_of_parts parts
    behind [] some = absurd (omega arith)
    behind (part ∷ parts) some = refl

pub next_part : (separator : ℕ) (text part rest after : List ℕ) (place : ℕ) → position (λ b. b == separator) text ≡ Some place
    → part ≡ take place text → rest ≡ drop place text → after ≡ drop 1 rest
    → slice_split (λ b. b == separator) text ≡ part ∷ slice_split (λ b. b == separator) after
next_part separator text part rest after place found front back next =
    let split : List ℕ → List (List ℕ) = slice_split (λ b. b == separator) in
    cut_at (λ b. b == separator) text place found 0 ∙ ap (λ x. x ∷ split (drop 1 (drop place text))) (sym front)
    ∙ ap (λ x. part ∷ split (drop 1 x)) (sym back) ∙ ap (λ x. part ∷ split x) (sym next)

-- there are no more lines than parts
parts-le : (parts : List (List ℕ)) → length (lines_of_parts parts) ≤ length parts
parts-le [] = omega arith
parts-le (x ∷ []) = by_test (length x == 0)
  where
    by_test : (b : Bool) → length (cond b [] (x ∷ [])) ≤ 1
    by_test true = omega arith
    by_test false = omega arith
parts-le (x ∷ y ∷ more) = omega (arith, parts-le (y ∷ more))

pub length-lines : (text : List ℕ) → length (lines text) ≤ length text + 1
length-lines text =
    omega (
      arith,
      parts-le (slice_split (λ b. b == 10) text),
      length-slice_split (λ b. b == 10) text,
      count_by-le-length (λ b. b == 10) text,
    )

-- no part is longer than the list that is cut
abbrev AreWithin : {X : Type 0} → ℕ → List (List X) → Type 0
AreWithin n parts = AllByRecursion (λ part. length part ≤ n) parts

pub split-within : {X : Type 0} (p : X → Bool) (xs : List X) (n : ℕ) → length xs ≤ n → AreWithin n (slice_split p xs)
split-within p [] n few = (omega arith, tt)
split-within p (x ∷ xs) zero few = absurd (omega arith)
split-within p (x ∷ xs) (suc n) few =
    by_test (p x) (slice_split p xs) (split-within p xs n (omega arith)) (split-within p xs (suc n) (omega arith))
  where
    by_test : (b : Bool) (parts : List (List _)) → AreWithin n parts → AreWithin (suc n) parts
        → AreWithin (suc n) (cond b ([] ∷ parts) (onto_first x parts))
    by_test true parts shorter all = (omega arith, all)
    by_test false [] shorter all = (omega arith, tt)
    by_test false (part ∷ parts) shorter all = (omega (arith, shorter.0), all.1)
