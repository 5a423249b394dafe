-- How many lines bytes have, and whether they go past a limit, where more are taken.
use Rattle.std.proofs.Common.{◌≡◌, ℕ, suc, ◌+◌, ◌-◌, ◌^◌, ◌==◌, ◌||◌, ◌<◌, ◌≤◌, List, [], ◌∷◌, ◌++◌, length, min, nat_lt, Bool, true, false, not, cond, None, Some, refl, ap, sym, ◌∙◌, arith}
use Rattle.std.specs.Prelude.{slice_get}
use Rattle.std.specs.Int.{from_bool}
use Rattle.std.specs.List.{slice_split, onto_first}
use Rattle.std.specs.Str.Lines.{lines, lines_of_parts}
use Rattle.std.proofs.lemmas.Bool.Decides.{nat_tests}
use Rattle.std.proofs.lemmas.List.{length-append}
use Rattle.std.proofs.lemmas.List.Sums.{sum_by-cons}
use Rattle.line_reader.specs.Lines.{is_over}
use Rattle.line_reader.specs.Newlines.{newlines}
use Rattle.line_reader.proofs.LinesLemmas.{some_line}
use Rattle.line_reader.proofs.NewlineLemmas.{is_newline, newlines-append}
use Rattle.wmbus_files.specs.Watched.{is_unfinished, counted, IsCountOf}
use Rattle.wmbus_files.specs.declared.watched.Taken.{Taken}

-- the lines of parts, where a byte comes in front of them
parts_more : (x : ℕ) (b : Bool) (parts : List (List ℕ)) → 0 < length (lines_of_parts parts)
    → length (lines_of_parts (cond b ([] ∷ parts) (onto_first x parts))) ≡ cond b 1 0 + length (lines_of_parts parts)
parts_more x b [] some = absurd (omega arith)
parts_more x true (part ∷ parts) some = omega arith
parts_more x false (part ∷ next ∷ parts) some = omega arith
parts_more x false (part ∷ []) some = by_test (length part == 0) some
  where
    by_test : (b : Bool) → 0 < length (cond b [] (part ∷ []))
        → length (lines_of_parts ((x ∷ part) ∷ [])) ≡ 0 + length (cond b [] (part ∷ []))
    by_test true none = absurd (omega arith)
    by_test false one =
        let test : (length (x ∷ part) == 0) ≡ false = grind (arith, nat_tests) in
        ap (λ b. length (cond b [] ((x ∷ part) ∷ []))) test

-- as many lines as newlines, and one more where the last line has none
lines_count : (bytes : List ℕ) → length (lines bytes) ≡ newlines bytes + cond (is_unfinished bytes) 1 0
unfolding is_unfinished
lines_count [] = refl
lines_count (x ∷ []) = by_test (is_newline x)
  where
    by_test : (b : Bool) → length (lines_of_parts (cond b ([] ∷ [] ∷ []) ((x ∷ []) ∷ []))) ≡ 0 + cond b 1 0 + cond (not b) 1 0
    by_test true = refl
    by_test false = refl
lines_count (x ∷ y ∷ later) =
    let more = parts_more x (is_newline x) (slice_split is_newline (y ∷ later)) (some_line (y ∷ later) (omega arith)) in
    let newline = sum_by-cons (λ b. cond (is_newline b) 1 0) x (y ∷ later) in
    let rest = lines_count (y ∷ later) in
    omega (arith, more, newline, rest)

unfinished_behind : (before read : List ℕ) → 0 < length read → is_unfinished (before ++ read) ≡ is_unfinished read
unfolding is_unfinished
unfinished_behind [] read some = refl
unfinished_behind (x ∷ []) [] some = absurd (omega arith)
unfinished_behind (x ∷ []) (y ∷ read) some = refl
unfinished_behind (x ∷ y ∷ before) read some = unfinished_behind (y ∷ before) read some

-- by the last byte
pub unfinished_by : (bytes : List ℕ) (last : ℕ) → slice_get bytes (length bytes - 1) ≡ Some last → is_unfinished bytes ≡ not (last == 10)
unfolding is_unfinished
unfinished_by [] last is = absurd cc
unfinished_by (x ∷ []) last is = let same : x ≡ last = cc in ap (λ b. not (b == 10)) same
unfinished_by (x ∷ y ∷ later) last is =
    let place : length (x ∷ y ∷ later) - 1 ≡ suc (length (y ∷ later) - 1) = omega arith in
    unfinished_by (y ∷ later) last (ap (slice_get (x ∷ y ∷ later)) (sym place) ∙ is)

pub unfinished_none : (bytes : List ℕ) → slice_get bytes (length bytes - 1) ≡ None → is_unfinished bytes ≡ false
unfolding is_unfinished
unfinished_none [] none = refl
unfinished_none (x ∷ []) none = absurd cc
unfinished_none (x ∷ y ∷ later) none =
    let place : length (x ∷ y ∷ later) - 1 ≡ suc (length (y ∷ later) - 1) = omega arith in
    unfinished_none (y ∷ later) (ap (slice_get (x ∷ y ∷ later)) (sym place) ∙ none)

-- a line that was begun before goes on

sum_more : (b c : Bool) (newlines' newlines'' begun read all : ℕ) → begun ≡ newlines' + cond b 1 0 → read ≡ newlines'' + cond c 1 0
    → all ≡ newlines' + newlines'' + cond c 1 0 → 0 < read → all ≡ begun + (read - cond b 1 0)
sum_more true c newlines' newlines'' begun read all before more both some =
    let one : cond {A = ℕ} true 1 0 ≡ 1 = refl in omega arith
sum_more false c newlines' newlines'' begun read all before more both some =
    let none : cond {A = ℕ} false 1 0 ≡ 0 = refl in omega arith

lines_more : (before read : List ℕ) → 0 < length read
    → length (lines (before ++ read)) ≡ length (lines before) + (length (lines read) - cond (is_unfinished before) 1 0)
lines_more before read some =
    sum_more (is_unfinished before) (is_unfinished read) (newlines before) (newlines read) _ _ _ (lines_count before) (lines_count read)
    (lines_count (before ++ read) ∙ ap (λ n. n + cond (is_unfinished (before ++ read)) 1 0) (newlines-append before read)
    ∙ ap (λ b. newlines before + newlines read + cond b 1 0) (unfinished_behind before read some)) (some_line read some)

-- whether a line was begun, as a number
as_number : (begun : Bool) → from_bool begun ≡ cond begun 1 0
as_number true = refl
as_number false = refl

pub begun_within : (read : List ℕ) (begun : Bool) (one count : ℕ) → 0 < length read → one ≡ from_bool begun
    → count ≡ length (lines read) → one ≤ count
begun_within read true one count some is all =
    let line = some_line read some in let just : from_bool true ≡ 1 = refl in omega arith
begun_within read false one count some is all = let none : from_bool false ≡ 0 = refl in omega arith

-- a count that stands still at its most

counted_more : (n old more : ℕ) → old ≡ counted n → min (old + more) (2 ^ 64 - 1) ≡ counted (n + more)
counted_more n old more is = grind (arith, nat_tests)

counted_test : (limit n : ℕ) → limit < 2 ^ 64 - 1 → nat_lt limit (counted n) ≡ nat_lt limit n
counted_test limit n low = grind (arith, nat_tests)

pub count_of_nothing : (taken : Taken) → taken ≡ record { bytes = 0; lines = 0; unfinished = false } → IsCountOf [] taken
unfolding is_unfinished
count_of_nothing taken is = record { bytes_are = ap (λ t. t.bytes) is; lines_are = ap (λ t. t.lines) is; unfinished_is = ap (λ t. t.unfinished) is }

pub is_over_by : (bytes : List ℕ) (taken : Taken) → IsCountOf bytes taken
    → is_over bytes ≡ (nat_lt 67108864 taken.bytes || nat_lt 131072 taken.lines)
unfolding is_over
is_over_by bytes taken is =
    ap (λ b. b || nat_lt 131072 (length (lines bytes)))
    (sym (counted_test 67108864 (length bytes) (omega arith)) ∙ ap (nat_lt 67108864) (sym is.bytes_are))
    ∙ ap (λ b. nat_lt 67108864 taken.bytes || b)
    (sym (counted_test 131072 (length (lines bytes)) (omega arith)) ∙ ap (nat_lt 131072) (sym is.lines_are))

-- the count of a read more, which has so many lines, of which so many were begun before
pub count_more : (before read : List ℕ) (old new : Taken) (count one : ℕ) → IsCountOf before old → 0 < length read
    → count ≡ length (lines read) → one ≡ from_bool old.unfinished
    → new.bytes ≡ min (old.bytes + length read) (2 ^ 64 - 1) → new.lines ≡ min (old.lines + (count - one)) (2 ^ 64 - 1)
    → new.unfinished ≡ is_unfinished read → IsCountOf (before ++ read) new
count_more before read old new count one is some count_is one_is bytes_are lines_are unfinished_is =
    let begun : one ≡ cond (is_unfinished before) 1 0 = one_is ∙ as_number old.unfinished ∙ ap (λ b. cond b 1 0) is.unfinished_is in
    record {
      bytes_are = bytes_are ∙ counted_more (length before) old.bytes (length read) is.bytes_are ∙ ap counted (sym (length-append before read));
      lines_are =
          lines_are ∙ counted_more (length (lines before)) old.lines (count - one) is.lines_are
          ∙ ap (λ n. counted (length (lines before) + (n - one))) count_is
          ∙ ap (λ n. counted (length (lines before) + (length (lines read) - n))) begun
          ∙ ap counted (sym (lines_more before read some));
      unfinished_is = unfinished_is ∙ sym (unfinished_behind before read some);
    }
