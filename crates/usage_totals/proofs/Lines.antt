-- Lines that are answered one after another.
use Rattle.std.proofs.Common.{◌≡◌, ℕ, ◌+◌, ◌<◌, Bool, List, [], ◌∷◌, ◌++◌, length, take, drop, None, refl, sym, ap, ◌∙◌, append_assoc, arith}
use Rattle.std.specs.Prelude.{fold}
use Rattle.std.proofs.lemmas.Bool.{lt-ltb, cond-true}
use Rattle.std.proofs.lemmas.List.{length-append, take-append-drop, take-append-le}
use Rattle.outer_io.specs.Bytes.{AppendsFront}
use Rattle.plain_text.specs.Parts.{fields_of}
use Rattle.line_teller.specs.Telling.{AreTold}
use Rattle.usage_totals.specs.Table.{Table}
use Rattle.usage_totals.specs.declared.answer.Answerer.{Answerer}
use Rattle.usage_totals.specs.Requests.{request_of, by_sign}
use Rattle.usage_totals.specs.Texts.{answer_text, answers, rows_after_line, rows_told}
use Rattle.usage_totals.specs.Answering.{Keeps, AnswersLine}
use Rattle.usage_totals.specs.Run.{printed}

-- what is told of lines are the answers to them
pub are_answered : (number : ℕ) (first last : Answerer) (lines : List (List ℕ)) (text note : List ℕ)
    → AreTold AnswersLine number first lines text note last
    → (table : Table (List ℕ)) → Keeps table first.totals → text ≡ answers first.addressed table lines
are_answered number first last [] text note told table k = told.0
are_answered number first last (line ∷ lines) text note told table k =
    let one : AnswersLine first number line told.first_text told.first_note told.next = told.told in
    let later = are_answered (number + 1) told.next last lines told.later_text told.later_note told.later
    (rows_after_line table line) (one.answers.rows table k) in
    told.text_is ∙ ap (λ t. t ++ told.later_text) (one.answers.text_is table k)
    ∙ ap (λ t. answer_text first.addressed table (request_of line) ++ t)
    (later ∙ ap (λ a. answers a (rows_after_line table line) lines) one.same)

answers-append : (addressed : Bool) (table : Table (List ℕ)) (xs ys : List (List ℕ))
    → answers addressed table (xs ++ ys) ≡ answers addressed table xs ++ answers addressed (fold rows_after_line table xs) ys
answers-append addressed table [] ys = refl
answers-append addressed table (x ∷ xs) ys =
    ap (λ t. answer_text addressed table (request_of x) ++ t) (answers-append addressed (rows_after_line table x) xs ys)
    ∙ sym (append_assoc (answer_text addressed table (request_of x)) (answers addressed (rows_after_line table x) xs)
    (answers addressed (fold rows_after_line (rows_after_line table x) xs) ys))

-- a front of the answers to some first lines is one of all answers
pub front_of_all : (addressed : Bool) (count : ℕ) (lines : List (List ℕ)) (now : List ℕ)
    → AppendsFront (printed addressed (take count lines)) [] now → AppendsFront (printed addressed lines) [] now
front_of_all addressed count lines now front =
    let first = printed addressed (take count lines) in
    let more = answers addressed (rows_told (take count lines)) (drop count lines) in
    let whole : printed addressed lines ≡ first ++ more =
    ap (printed addressed) (sym (take-append-drop count lines)) ∙ answers-append addressed [] (take count lines) (drop count lines) in
    record {
      count = front.count;
      within = omega (arith, front.within, ap length whole, length-append first more);
      appended = front.appended ∙ sym (take-append-le front.count first more front.within) ∙ ap (take front.count) (sym whole);
    }

-- a line that is too long asks for nothing
pub long_line : (line : List ℕ) → 7774 < length line → request_of line ≡ None
unfolding request_of
long_line line long = cond-true _ None (by_sign (fields_of line)) (lt-ltb 7774 (length line) long)
