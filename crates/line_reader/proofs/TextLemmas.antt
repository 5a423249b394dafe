-- The text of bytes that are one line.
use Rattle.std.proofs.Common.{◌≡◌, ℕ, ◌<◌, ◌-◌, ◌==◌, List, [], ◌∷◌, ◌++◌, length, take, get_or, cond, Option, Some, None, refl, ap, sym, ◌∙◌, arith, inl, inr}
use Rattle.std.specs.Prelude.{position}
use Rattle.std.specs.Str.Lines.{lines, strip_carriage_return}
use Rattle.std.proofs.lemmas.Bool.{cases_lt}
use Rattle.std.proofs.lemmas.List.{get_or_push, length_push, take_at, nil_from_length}
use Rattle.line_reader.specs.Reading.{line_text}
use Rattle.line_reader.proofs.NewlineLemmas.{is_newline, no_place, first_place, no_newline_at}
use Rattle.line_reader.proofs.LinesLemmas.{lines_front, lines_alone, some_line}

-- a line with its newline
ended_text : (bytes front : List ℕ) → bytes ≡ front ++ 10 ∷ [] → line_text bytes ≡ strip_carriage_return front
ended_text bytes front is =
    let long = ap length is ∙ length_push front 10 in
    let last : length bytes - 1 ≡ length front = omega arith in
    let newline : get_or bytes (length bytes - 1) 0 ≡ 10 = ap (λ n. get_or bytes n 0) last ∙ ap (λ xs. get_or xs (length front) 0) is
    ∙ get_or_push front 10 0 (length front) refl in
    let kept : take (length bytes - 1) bytes ≡ front =
    ap (λ n. take n bytes) last ∙ ap (take (length front)) is ∙ take_at front (10 ∷ []) (length front) refl in
    ap (λ b. cond (b == 10) (strip_carriage_return (take (length bytes - 1) bytes)) bytes) newline ∙ ap strip_carriage_return kept

-- an unfinished line
unfinished_text : (bytes : List ℕ) → 0 < length bytes → position is_newline bytes ≡ None → line_text bytes ≡ bytes
unfinished_text bytes some none =
    ap (λ b. cond b (strip_carriage_return (take (length bytes - 1) bytes)) bytes)
    (no_newline_at bytes (length bytes - 1) none (omega arith))

same_head : (x y : List ℕ) (xs : List (List ℕ)) → x ∷ xs ≡ y ∷ [] → (x ≡ y) × (xs ≡ [])
same_head x y xs h = (cc, cc)

pub text_of_one_line : (bytes text : List ℕ) → lines bytes ≡ text ∷ [] → line_text bytes ≡ text
text_of_one_line [] text one = absurd cc
text_of_one_line (x ∷ more) text one = by_place (x ∷ more) (omega arith) one (position is_newline (x ∷ more)) refl
  where
    by_place : (bytes : List ℕ) → 0 < length bytes → lines bytes ≡ text ∷ [] → (place : Option ℕ) → position is_newline bytes ≡ place
        → line_text bytes ≡ text
    by_place bytes some one None is =
        unfinished_text bytes some is ∙ (same_head bytes text [] (sym (lines_alone bytes (no_place bytes is) some) ∙ one)).0
    by_place bytes some one (Some i) is =
        let line = first_place bytes i is in
        let parts =
        same_head (strip_carriage_return line.front) text (lines line.rest) (sym (lines_front line.front line.rest line.alone)
        ∙ ap lines (sym line.cut) ∙ one) in
        let none_left : length (lines line.rest) ≡ 0 = ap length parts.1 in
        let at_end : line.rest ≡ [] = nil_from_length line.rest (elim (cases_lt 0 (length line.rest)) [
          | inl left ↦ absurd (let more = some_line line.rest left in omega arith)
          | inr none ↦ omega arith
        ]) in
        ended_text bytes line.front (line.cut ∙ ap (λ rest. line.front ++ 10 ∷ rest) at_end) ∙ parts.0
