-- What is told of lines is what is shown of them.
use Rattle.std.proofs.Common.{ℕ, ◌≡◌, ◌+◌, ◌<◌, true, cond, List, [], ◌∷◌, ◌++◌, length, sym, ap, ◌∙◌, arith, nat_lt, Result, Err, append-nil}
use Rattle.std.proofs.lemmas.Bool.Decides.{nat_tests}
use Rattle.meter_address.specs.Commission.{Commissioned}
use Rattle.plain_text.specs.Parts.{fields_of}
use Rattle.line_reader.specs.Grammar.{line_of, by_word}
use Rattle.line_reader.specs.declared.line.Line.{Line}
use Rattle.line_reader.specs.declared.line.BadLine.{BadLine}
use Rattle.line_reader.specs.declared.line.BadLine.TheVariants as bads
use Rattle.line_teller.specs.Telling.{AreTold}
use Rattle.frame_inspect_main.specs.Layered.{said_line}
use Rattle.frame_inspect.specs.declared.serving.Answer.{Answer}
use Rattle.frame_inspect.specs.declared.telling.Opener.{Opener}
use Rattle.frame_inspect.specs.Below.{below_text}
use Rattle.frame_inspect.specs.Serving.{answer_text}
use Rattle.frame_inspect.specs.Shown.{shown_text, shown_from, answered_text, ShowsLine}

-- what is put of a line that was read and answered is what is shown of it
pub answered_is : (meters meters' : List Commissioned) (number : ℕ) (line : List ℕ) (said : Result Line BadLine) (answer : Answer)
    → said ≡ line_of line → meters' ≡ meters → answer_text answer ≡ below_text meters' said
    → answered_text number said answer ≡ shown_text meters number line
unfolding answered_text
answered_is meters meters' number line said answer is same below =
    ap (λ b. said_line number said ++ b) (below ∙ ap (λ ms. below_text ms said) same)
    ∙ ap (λ (it : Result Line BadLine). said_line number it ++ below_text meters it) is

long_test : (line : List ℕ) → 1024 < length line → nat_lt 1024 (length line) ≡ true
long_test line long = grind (arith, nat_tests)

-- a line that is too long is outside the grammar
long_line : (line : List ℕ) → 1024 < length line → line_of line ≡ Err bads.TooLong
unfolding line_of
long_line line long = ap (λ test. cond test (Err bads.TooLong) (by_word (fields_of line))) (long_test line long)

pub long_is : (meters : List Commissioned) (number : ℕ) (line : List ℕ) → 1024 < length line
    → said_line number (Err bads.TooLong) ≡ shown_text meters number line
long_is meters number line long =
    sym (append-nil (said_line number (Err bads.TooLong)))
    ∙ ap (λ (it : Result Line BadLine). said_line number it ++ below_text meters it) (sym (long_line line long))

pub are_shown : (number : ℕ) (first last : Opener) (lines : List (List ℕ)) (text note : List ℕ)
    → AreTold ShowsLine number first lines text note last → text ≡ shown_from first.roster.meters number lines
are_shown number first last [] text note told = told.0
are_shown number first last (line ∷ lines) text note told =
    let one : ShowsLine first number line told.first_text told.first_note told.next = told.told in
    let later = are_shown (number + 1) told.next last lines told.later_text told.later_note told.later in
    told.text_is ∙ ap (λ t. t ++ told.later_text) one.text_is
    ∙ ap (λ t. shown_text first.roster.meters number line ++ t)
    (later ∙ ap (λ (o : Opener). shown_from o.roster.meters (number + 1) lines) one.new_is)
