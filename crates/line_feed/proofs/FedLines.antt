-- Lines that are fed one after another.
use Rattle.std.proofs.Common.{◌≡◌, ℕ, ◌+◌, ◌<◌, true, cond, List, [], ◌∷◌, ◌++◌, length, Ok, Err, refl, sym, ap, ap₂, ◌∙◌, subst, arith}
use Rattle.std.specs.Prelude.{nat_lt}
use Rattle.std.proofs.lemmas.Bool.{cond-true, lt-ltb}
use Rattle.line_teller.specs.Telling.{AreTold}
use Rattle.line_feed.specs.declared.heard.Reception.{Reception}
use Rattle.line_feed.specs.declared.printings.Printing.{Printing}
use Rattle.line_feed.specs.declared.reasons.NotTaken.{NotTaken}
use Rattle.line_feed.specs.declared.reasons.NotTaken.TheVariants as reasons
use Rattle.line_feed.specs.Lines.{heard_in, heard_of}
use Rattle.line_feed.specs.Notes.{note_text}
use Rattle.line_feed.specs.Feeding.{Fed, IsText, IsReceiverLine, AreFed, noted, note_of, taken_note, fed_after, fed_behind, FeedsLine}

-- ---- one line

-- a line that is taken
pub feeds_taken : (old new : Fed) (number : ℕ) (line text : List ℕ) (heard : Reception) → heard_of old.printing line ≡ Ok heard
    → IsReceiverLine heard text → new ≡ fed_after old (Ok heard) → FeedsLine old number line text (taken_note old number heard) new
feeds_taken old new number line text heard is text_is new_is = record {
  text_is = subst (λ said. IsText said text) (sym is) text_is;
  note_is = ap (note_of old number) (sym is);
  new_is = new_is ∙ ap (fed_after old) (sym is);
}

-- a line that isn't
pub feeds_left_out : (old new : Fed) (number : ℕ) (line : List ℕ) (reason : NotTaken) → heard_of old.printing line ≡ Err reason
    → new ≡ fed_after old (Err reason) → FeedsLine old number line [] (note_text number reason) new
feeds_left_out old new number line reason is new_is = record {
  text_is = subst (λ said. IsText said []) (sym is) refl;
  note_is = ap (note_of old number) (sym is);
  new_is = new_is ∙ ap (fed_after old) (sym is);
}

-- a line that is too long isn't taken
pub long_heard : (printing : Printing) (line : List ℕ) → 4096 < length line → heard_of printing line ≡ Err reasons.TooLong
long_heard printing line long = cond-true (nat_lt 4096 (length line)) _ _ (lt-ltb 4096 (length line) long)

-- ---- all lines

-- what is told of lines is what is fed and noted of them
pub record AreFedSo (number : ℕ) (first last : Fed) (lines : List (List ℕ)) (text note : List ℕ) : Type 0 where
  pub fed : AreFed first.printing lines text
  pub note_is : note ≡ noted first number lines
  pub last_is : last ≡ fed_behind first lines

pub are_fed : (number : ℕ) (first last : Fed) (lines : List (List ℕ)) (text note : List ℕ)
    → AreTold FeedsLine number first lines text note last → AreFedSo number first last lines text note
are_fed number first last [] text note told = record { fed = told.0; note_is = told.1; last_is = told.2 }
are_fed number first last (line ∷ lines) text note told =
    let later = are_fed (number + 1) told.next last lines told.later_text told.later_note told.later in
    let one : FeedsLine first number line told.first_text told.first_note told.next = told.told in
    let printing_is : told.next.printing ≡ first.printing = ap (λ (f : Fed). f.printing) one.new_is in
    record {
      fed = record {
        first_text = told.first_text;
        later_text = told.later_text;
        first_is = one.text_is;
        later_is = subst (λ printing. AreFed printing lines told.later_text) printing_is later.fed;
        joined = told.text_is;
      };
      note_is = told.note_is ∙ ap₂ (λ (a b : List ℕ). a ++ b) one.note_is (later.note_is ∙ ap (λ f. noted f (number + 1) lines) one.new_is);
      last_is = later.last_is ∙ ap (λ f. fed_behind f lines) one.new_is;
    }
