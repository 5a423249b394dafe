-- What one step does, and where the lines stand between two steps.
use Rattle.std.specs.Prelude.{ℕ, ◌≡◌, Bool, List, [], ◌∷◌, ◌++◌, length, IsTrue}
use Rattle.outer_io.specs.Shown.{Change, SourceShown, SinkShown}
use Rattle.line_teller.specs.declared.ending.LinesEnd.{LinesEnd}
use Rattle.line_teller.specs.Telling.{AreTold}
use Rattle.line_teller.specs.Ending.{EndsLines, EndsText, IsNoted, is_whole}

-- what is written and what waits on a sheet for it: some of what waited was written, and the rest waits
pub record Pours (written sheet written' sheet' : List ℕ) : Type 0 where
  pub gone : List ℕ
  pub written_is : written' ≡ written ++ gone
  pub sheet_is : sheet ≡ gone ++ sheet'

-- a text was told: what waited in front of it and then the text are written or wait
abbrev pub PoursMore : List ℕ → (written sheet written' sheet' : List ℕ) → Type 0
PoursMore text written sheet written' sheet' = Pours written (sheet ++ text) written' sheet'

-- one step: one more line was told
pub record Steps {T : Type 0} (tells : T → ℕ → List ℕ → List ℕ → List ℕ → T → Type 0) (number : ℕ) (old new : T)
    (old_lines new_lines : List (List ℕ))
    (out_tells : Bool) (out : Change SinkShown) (sheet sheet' : List ℕ) (notes_tell : Bool) (notes : Change SinkShown) : Type 0 where
  pub lines : List (List ℕ)
  pub text : List ℕ
  pub note : List ℕ
  pub told : AreTold tells number old lines text note new
  pub one : length lines ≡ 1
  pub more : new_lines ≡ old_lines ++ lines
  pub poured : IsTrue out_tells → PoursMore text out.before.written sheet out.now.written sheet'
  pub noted : IsTrue notes_tell → IsNoted note notes

-- one more line was told, and its text and its note were written
pub record TellsOne {T : Type 0} (tells : T → ℕ → List ℕ → List ℕ → List ℕ → T → Type 0) (number : ℕ) (old new : T)
    (old_lines new_lines : List (List ℕ)) (out_tells : Bool) (out : Change SinkShown) (notes_tell : Bool) (notes : Change SinkShown)
    : Type 0 where
  pub line : List ℕ
  pub text : List ℕ
  pub note : List ℕ
  pub told : tells old number line text note new
  pub more : new_lines ≡ old_lines ++ line ∷ []
  pub written : IsTrue out_tells → out.now.written ≡ out.before.written ++ text
  pub noted : IsTrue notes_tell → IsNoted note notes

-- the last step: perhaps one more line was told
pub record EndsStep {T : Type 0} (tells : T → ℕ → List ℕ → List ℕ → List ℕ → T → Type 0) (number : ℕ) (old new : T) (end : LinesEnd)
    (source : SourceShown)
    (old_lines : List (List ℕ)) (out_tells : Bool) (out : Change SinkShown) (sheet : List ℕ) (notes_tell : Bool)
    (notes : Change SinkShown) : Type 0 where
  pub lines : List (List ℕ)
  pub text : List ℕ
  pub note : List ℕ
  pub last : T
  pub told : AreTold tells number old lines text note last
  pub lines_are : EndsLines end source.taken source.left (old_lines ++ lines)
  pub last_is : IsTrue (is_whole end) → last ≡ new
  pub written : IsTrue out_tells → EndsText end (sheet ++ text) out
  pub noted : IsTrue notes_tell → IsNoted note notes

-- between two steps: the lines so far were told, and their text is written or waits on the sheet
pub record Stands {T : Type 0} (tells : T → ℕ → List ℕ → List ℕ → List ℕ → T → Type 0) (first now : T) (lines : List (List ℕ)) (count : ℕ)
    (out_tells : Bool) (out : Change SinkShown) (sheet : List ℕ) (notes_tell : Bool) (notes : Change SinkShown) : Type 0 where
  pub text : List ℕ
  pub note : List ℕ
  pub told : AreTold tells 1 first lines text note now
  pub counted : length lines ≡ count
  pub poured : IsTrue out_tells → PoursMore text out.before.written [] out.now.written sheet
  pub noted : IsTrue notes_tell → IsNoted note notes
