-- Lines that are answered one after another.
use Rattle.std.proofs.Common.{◌≡◌, ℕ, ◌+◌, ◌<◌, List, [], ◌∷◌, ◌++◌, length, codes, Some, None, refl, sym, ap, ap₂, ◌∙◌}
use Rattle.std.specs.Prelude.{nat_lt}
use Rattle.std.proofs.lemmas.Bool.{cond-true, lt-ltb}
use Rattle.line_teller.specs.Telling.{AreTold}
use Rattle.line_accept.specs.declared.fence.Answer.{Answer}
use Rattle.line_accept.specs.Senders.{Sender, answer_in, passed_in}
use Rattle.line_accept.specs.Deliveries.{Delivery, delivery_of}
use Rattle.line_accept.specs.Answers.{answer_text, delivery_text, behind_delivery, answers_text, behind_lines, AcceptsLine}

-- ---- one line

pub accepts : (inside old new : List Sender) (number : ℕ) (line : List ℕ) (d : Delivery) (a : Answer) → inside ≡ old → Some d ≡ delivery_of line
    → a ≡ answer_in inside d.name d.message → new ≡ passed_in inside d.name d.message → AcceptsLine old number line (answer_text a) [] new
accepts inside old new number line d a same is answer after = record {
  text_is = ap answer_text (answer ∙ ap (λ (ss : List Sender). answer_in ss d.name d.message) same) ∙ ap (delivery_text old) is;
  note_is = refl;
  new_is = after ∙ ap (λ (ss : List Sender). passed_in ss d.name d.message) same ∙ ap (behind_delivery old) is;
}

pub passes_over : (old new : List Sender) (number : ℕ) (line : List ℕ) → None ≡ delivery_of line → new ≡ old
    → AcceptsLine old number line (codes "bad\n") [] new
passes_over old new number line is same = record {
  text_is = ap (delivery_text old) is;
  note_is = refl;
  new_is = same ∙ ap (behind_delivery old) is;
}

-- a line that is too long delivers nothing
pub long_delivers : (line : List ℕ) → 96 < length line → None ≡ delivery_of line
unfolding delivery_of
long_delivers line long = sym (cond-true (nat_lt 96 (length line)) _ _ (lt-ltb 96 (length line) long))

-- ---- all lines

-- what is told of lines is what is answered to them
pub record AreAnswered (first last : List Sender) (lines : List (List ℕ)) (text : List ℕ) : Type 0 where
  pub text_is : text ≡ answers_text first lines
  pub last_is : last ≡ behind_lines first lines

pub are_answered : (number : ℕ) (first last : List Sender) (lines : List (List ℕ)) (text note : List ℕ)
    → AreTold AcceptsLine number first lines text note last → AreAnswered first last lines text
are_answered number first last [] text note told = record { text_is = told.0; last_is = told.2 }
are_answered number first last (line ∷ lines) text note told =
    let later = are_answered (number + 1) told.next last lines told.later_text told.later_note told.later in
    let one : AcceptsLine first number line told.first_text told.first_note told.next = told.told in
    record {
      text_is = told.text_is ∙ ap₂ (λ (a b : List ℕ). a ++ b) one.text_is (later.text_is ∙ ap (λ (ss : List Sender). answers_text ss lines) one.new_is);
      last_is = later.last_is ∙ ap (λ (ss : List Sender). behind_lines ss lines) one.new_is;
    }
