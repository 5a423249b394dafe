-- The lines of bytes that are read from their front.
use Rattle.std.proofs.Common.{◌≡◌, ℕ, ◌<◌, ◌≤◌, ◌+◌, ◌-◌, ◌==◌, List, [], ◌∷◌, ◌++◌, length, take, get_or, Bool, true, false, cond, Option, Some, None, Err, refl, ap, sym, ◌∙◌, arith, nat_lt, append_assoc}
use Rattle.std.specs.Prelude.{position}
use Rattle.std.specs.List.{slice_split, onto_first}
use Rattle.std.specs.Str.Lines.{lines, lines_of_parts, strip_carriage_return}
use Rattle.std.proofs.lemmas.Bool.{cond-false, or_from, or_left, or_right}
use Rattle.std.proofs.lemmas.Bool.Decides.{nat_tests}
use Rattle.std.proofs.lemmas.List.{append-nil, length_push, take_at, take_all, take-take, length-take}
use Rattle.std.proofs.lemmas.List.Sums.{sum_by-cons}
use Rattle.plain_text.proofs.Cuts.{lines_cut}
use lib.Seq.{take-append-add}
use Rattle.line_reader.specs.Grammar.{line_of}
use Rattle.line_reader.specs.Keeps.{IsFinished}
use Rattle.line_reader.specs.Lines.{ended_lines, is_over, whole_lines, all_lines}
use Rattle.line_reader.specs.Newlines.{newlines}
use Rattle.line_reader.specs.declared.grammar.TheConstants.{LINE_MAX}
use Rattle.line_reader.specs.declared.lines.TheConstants.{LINES_MAX, BYTES_MAX}
use Rattle.line_reader.specs.declared.line.BadLine.TheVariants as bads
use Rattle.line_reader.proofs.NewlineLemmas.{is_newline, newlines-append, no_place, first_place}

-- the parts of bytes whose front has no newline

pub no_head : (x : ℕ) (xs : List ℕ) → newlines (x ∷ xs) ≡ 0 → (is_newline x ≡ false) × (newlines xs ≡ 0)
no_head x xs none = by_test (is_newline x) refl (sym (sum_by-cons (λ b. cond (is_newline b) 1 0) x xs) ∙ none)
  where
    by_test : (b : Bool) → is_newline x ≡ b → cond (is_newline x) 1 0 + newlines xs ≡ 0 → (is_newline x ≡ false) × (newlines xs ≡ 0)
    by_test true is none = absurd (let one = ap {B = ℕ} (λ b. cond b 1 0) is in omega arith)
    by_test false is none = (is, let no = ap {B = ℕ} (λ b. cond b 1 0) is in omega arith)

split_front : (front rest : List ℕ) → newlines front ≡ 0 → slice_split is_newline (front ++ 10 ∷ rest) ≡ front ∷ slice_split is_newline rest
split_front [] rest none = refl
split_front (x ∷ front) rest none =
    let head = no_head x front none in
    ap (λ b. cond b ([] ∷ slice_split is_newline (front ++ 10 ∷ rest)) (onto_first x (slice_split is_newline (front ++ 10 ∷ rest)))) head.0
    ∙ ap (onto_first x) (split_front front rest head.1)

split_alone : (bytes : List ℕ) → newlines bytes ≡ 0 → slice_split is_newline bytes ≡ bytes ∷ []
split_alone [] none = refl
split_alone (x ∷ bytes) none =
    let head = no_head x bytes none in
    ap (λ b. cond b ([] ∷ slice_split is_newline bytes) (onto_first x (slice_split is_newline bytes))) head.0
    ∙ ap (onto_first x) (split_alone bytes head.1)

-- the first line, and what follows it
pub lines_front : (front rest : List ℕ) → newlines front ≡ 0 → lines (front ++ 10 ∷ rest) ≡ strip_carriage_return front ∷ lines rest
lines_front front rest none = lines_cut (front ++ 10 ∷ rest) front rest (split_front front rest none)

-- an unfinished line
pub lines_alone : (bytes : List ℕ) → newlines bytes ≡ 0 → 0 < length bytes → lines bytes ≡ bytes ∷ []
lines_alone [] none some = absurd (omega arith)
lines_alone (x ∷ bytes) none some =
    let test : (length (x ∷ bytes) == 0) ≡ false = grind (arith, nat_tests) in
    ap lines_of_parts (split_alone (x ∷ bytes) none) ∙ ap (λ b. cond b [] ((x ∷ bytes) ∷ [])) test

-- a byte is in a line
pub some_line : (bytes : List ℕ) → 0 < length bytes → 0 < length (lines bytes)
some_line bytes some = by_place (position is_newline bytes) refl
  where
    by_place : (place : Option ℕ) → position is_newline bytes ≡ place → 0 < length (lines bytes)
    by_place None is = let one = ap length (lines_alone bytes (no_place bytes is) some) in omega arith
    by_place (Some i) is =
        let line = first_place bytes i is in
        let one = ap length (ap lines line.cut ∙ lines_front line.front line.rest line.alone) in
        omega arith

-- one line more, with its newline
pub lines_more : (bytes front : List ℕ) → IsFinished bytes → newlines front ≡ 0
    → lines (bytes ++ (front ++ 10 ∷ [])) ≡ lines bytes ++ strip_carriage_return front ∷ []
lines_more bytes front finished none = finished.follow (front ++ 10 ∷ []) ∙ ap (λ x. lines bytes ++ x) (lines_front front [] none)

pub finished_more : (bytes front : List ℕ) → IsFinished bytes → newlines front ≡ 0 → IsFinished (bytes ++ (front ++ 10 ∷ []))
finished_more bytes front finished none = record {
  follow = λ rest.
      ap lines (append_assoc bytes (front ++ 10 ∷ []) rest ∙ ap (λ x. bytes ++ x) (append_assoc front (10 ∷ []) rest))
      ∙ finished.follow (front ++ 10 ∷ rest)
      ∙ ap (λ x. lines bytes ++ x) (lines_front front rest none)
      ∙ sym (append_assoc (lines bytes) (strip_carriage_return front ∷ []) (lines rest))
      ∙ ap (λ x. x ++ lines rest) (sym (lines_more bytes front finished none));
  counted =
      let counts = newlines-append bytes (front ++ 10 ∷ []) in
      let line = newlines-append front (10 ∷ []) in
      let more = ap length (lines_more bytes front finished none) ∙ length_push (lines bytes) (strip_carriage_return front) in
      let before = finished.counted in
      omega arith;
}

-- the lines that end with a newline, behind lines that do
pub ended_behind : (bytes more : List ℕ) → IsFinished bytes → ended_lines (bytes ++ more) ≡ lines bytes ++ ended_lines more
ended_behind bytes more finished =
    ap (λ x. take (newlines (bytes ++ more)) x) (finished.follow more)
    ∙ ap (λ n. take n (lines bytes ++ lines more)) (newlines-append bytes more ∙ ap (λ n. n + newlines more) finished.counted)
    ∙ take-append-add (lines bytes) (lines more) (newlines more)

-- and behind these bytes without a newline
pub ended_alone : (bytes more : List ℕ) → IsFinished bytes → newlines more ≡ 0 → ended_lines (bytes ++ more) ≡ lines bytes
ended_alone bytes more finished none =
    ended_behind bytes more finished ∙ ap (λ n. lines bytes ++ take n (lines more)) none ∙ append-nil (lines bytes)

first_bytes : (bytes more : List ℕ) → length bytes ≤ BYTES_MAX
    → take BYTES_MAX (bytes ++ more) ≡ bytes ++ take (BYTES_MAX - length bytes) more
first_bytes bytes more few =
    let parts : BYTES_MAX ≡ length bytes + (BYTES_MAX - length bytes) = omega arith in
    ap (λ n. take n (bytes ++ more)) parts ∙ take-append-add bytes more (BYTES_MAX - length bytes)

pub whole_alone : (bytes more : List ℕ) → IsFinished bytes → length bytes ≤ BYTES_MAX → length (lines bytes) ≤ LINES_MAX
    → newlines (take (BYTES_MAX - length bytes) more) ≡ 0 → whole_lines (bytes ++ more) ≡ lines bytes
unfolding whole_lines
whole_alone bytes more finished few few_lines none =
    let front = take (BYTES_MAX - length bytes) more in
    ap (λ x. take LINES_MAX (ended_lines x)) (first_bytes bytes more few)
    ∙ ap (take LINES_MAX) (ended_alone bytes front finished none) ∙ take_all LINES_MAX (lines bytes) few_lines

-- any number of the lines that end with a newline
whole_first : (n : ℕ) (bytes more : List ℕ) → IsFinished bytes → length bytes ≤ BYTES_MAX → length (lines bytes) ≡ n → n ≤ LINES_MAX
    → take n (whole_lines (bytes ++ more)) ≡ lines bytes
unfolding whole_lines
whole_first n bytes more finished few is few_lines =
    let front = take (BYTES_MAX - length bytes) more in
    ap (λ x. take n (take LINES_MAX (ended_lines x))) (first_bytes bytes more few)
    ∙ take-take n LINES_MAX (ended_lines (bytes ++ front)) few_lines
    ∙ ap (take n) (ended_behind bytes front finished) ∙ take_at (lines bytes) (ended_lines front) n is

pub whole_full : (bytes more : List ℕ) → IsFinished bytes → length bytes ≤ BYTES_MAX → length (lines bytes) ≡ LINES_MAX
    → whole_lines (bytes ++ more) ≡ lines bytes
unfolding whole_lines
whole_full bytes more finished few full =
    sym (take-take LINES_MAX LINES_MAX (ended_lines (take BYTES_MAX (bytes ++ more))) (omega arith))
    ∙ whole_first LINES_MAX bytes more finished few full (omega arith)

-- the limits
pub over_bytes : (bytes : List ℕ) → BYTES_MAX < length bytes → is_over bytes ≡ true
unfolding is_over
over_bytes bytes over =
    let test : nat_lt BYTES_MAX (length bytes) ≡ true = grind (arith, nat_tests) in
    or_left _ (nat_lt LINES_MAX (length (lines bytes))) test

pub over_lines : (bytes : List ℕ) → LINES_MAX < length (lines bytes) → is_over bytes ≡ true
unfolding is_over
over_lines bytes over =
    let test : nat_lt LINES_MAX (length (lines bytes)) ≡ true = grind (arith, nat_tests) in
    or_right (nat_lt BYTES_MAX (length bytes)) _ test

pub not_over : (bytes : List ℕ) → length bytes ≤ BYTES_MAX → length (lines bytes) ≤ LINES_MAX → is_over bytes ≡ false
unfolding is_over
not_over bytes few few_lines =
    let test : nat_lt BYTES_MAX (length bytes) ≡ false = grind (arith, nat_tests) in
    let test' : nat_lt LINES_MAX (length (lines bytes)) ≡ false = grind (arith, nat_tests) in
    or_from (nat_lt BYTES_MAX (length bytes)) _ test test'

-- within the limits all lines are the lines
pub all_within : (bytes : List ℕ) → is_over bytes ≡ false → all_lines bytes ≡ lines bytes
unfolding all_lines
all_within bytes within = cond-false (is_over bytes) _ _ within

-- the lines given while the end of the source isn't met
pub given_lines : (line : ℕ) (bytes more : List ℕ) → IsFinished bytes → length bytes ≤ BYTES_MAX → length (lines bytes) ≡ line
    → line ≤ LINES_MAX → take line (all_lines (bytes ++ more)) ≡ lines bytes
unfolding all_lines
given_lines line bytes more finished few is few_lines = by_test (is_over (bytes ++ more))
  where
    by_test : (b : Bool) → take line (cond b (whole_lines (bytes ++ more)) (lines (bytes ++ more))) ≡ lines bytes
    by_test true = whole_first line bytes more finished few is few_lines
    by_test false = ap (take line) (finished.follow more) ∙ take_at (lines bytes) (lines more) line is

-- a line with too many bytes
pub too_long : (text : List ℕ) → LINE_MAX < length text → line_of text ≡ Err bads.TooLong
unfolding line_of
too_long text long =
    let test : nat_lt LINE_MAX (length text) ≡ true = grind (arith, nat_tests) in
    rw test

pub length-strip : (text : List ℕ) → length text ≤ length (strip_carriage_return text) + 1
length-strip text = by_test (get_or text (length text - 1) 0 == 13)
  where
    by_test : (b : Bool) → length text ≤ length (cond b (take (length text - 1) text) text) + 1
    by_test true = omega (arith, length-take (length text - 1) text)
    by_test false = omega arith
