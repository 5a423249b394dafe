-- How lines that are told end, and what is promised then.
use Rattle.std.specs.Prelude.{ℕ, ◌≡◌, ◌⊎◌, Bool, true, false, List, [], ◌∷◌, ◌++◌, take, IsTrue}
use Rattle.outer_io.specs.Bytes.{AppendsFront}
use Rattle.outer_io.specs.Shown.{Change, SourceShown, SinkShown, WriteFailed}
use Rattle.line_reader.specs.Lines.{is_over, whole_lines, all_lines}
use Rattle.line_teller.specs.declared.ending.LinesEnd.{LinesEnd}
use Rattle.line_teller.specs.declared.ending.LinesEnd.TheVariants as ends
use Rattle.line_teller.specs.Telling.{AreTold}

-- some first lines
pub record AreFirst (lines all : List (List ℕ)) : Type 0 where
  pub count : ℕ
  pub first : lines ≡ take count all

-- Which lines were told, by how they end: all of the source; the whole ones of the bytes taken; or some first ones of these.
abbrev pub EndsLines : LinesEnd → (taken left : List ℕ) → List (List ℕ) → Type 0
EndsLines ends.Done taken left lines = (left ≡ []) × (is_over taken ≡ false) × (lines ≡ all_lines taken)
EndsLines ends.Cut taken left lines = (is_over (taken ++ left) ≡ true) × (lines ≡ whole_lines taken)
EndsLines ends.Read taken left lines = lines ≡ whole_lines taken
EndsLines ends.Write taken left lines = AreFirst lines (all_lines taken)
EndsLines ends.Memory taken left lines = AreFirst lines (all_lines taken)

-- whether every line was told that could be read
abbrev pub is_whole : LinesEnd → Bool
is_whole ends.Done = true
is_whole ends.Cut = true
is_whole ends.Read = true
is_whole ends.Write = false
is_whole ends.Memory = false

-- a text stands behind what was written, or a front of it where not every line was told
abbrev pub EndsText : LinesEnd → List ℕ → Change SinkShown → Type 0
EndsText ends.Done text sink = sink.now.written ≡ sink.before.written ++ text
EndsText ends.Cut text sink = sink.now.written ≡ sink.before.written ++ text
EndsText ends.Read text sink = sink.now.written ≡ sink.before.written ++ text
EndsText ends.Write text sink = AppendsFront text sink.before.written sink.now.written
EndsText ends.Memory text sink = AppendsFront text sink.before.written sink.now.written

-- a note stands behind what was written, unless a write failed
abbrev pub IsNoted : List ℕ → Change SinkShown → Type 0
IsNoted note sink = (WriteFailed sink → ⊥) → sink.now.written ≡ sink.before.written ++ note

-- Lines of a source, numbered from 1, were told on two sinks, of which contracts know the bytes where they tell them.
pub record Ended {T : Type 0} (tells : T → ℕ → List ℕ → List ℕ → List ℕ → T → Type 0) (first now : T) (end : LinesEnd)
    (source : SourceShown) (out_tells : Bool) (out : Change SinkShown) (notes_tell : Bool) (notes : Change SinkShown) : Type 0 where
  pub lines : List (List ℕ)
  pub text : List ℕ
  pub note : List ℕ
  pub last : T
  pub told : AreTold tells 1 first lines text note last
  pub lines_are : EndsLines end source.taken source.left lines
  -- the teller at the end is the one that the lines left, where every line was told that could be read
  pub last_is : IsTrue (is_whole end) → last ≡ now
  pub written : IsTrue out_tells → EndsText end text out
  pub noted : IsTrue notes_tell → IsNoted note notes

-- one more line was taken
pub record TakesOne (old_lines new_lines : List (List ℕ)) : Type 0 where
  pub line : List ℕ
  pub more : new_lines ≡ old_lines ++ line ∷ []

-- There was no memory for the last of the lines taken: those before it were told, and their texts are written, with nothing of its own.
pub record StopsBefore {T : Type 0} (tells : T → ℕ → List ℕ → List ℕ → List ℕ → T → Type 0) (first : T) (taken : List (List ℕ))
    (out_tells : Bool) (out : Change SinkShown) : Type 0 where
  pub lines : List (List ℕ)
  pub untold : List ℕ
  pub text : List ℕ
  pub note : List ℕ
  pub last : T
  pub told : AreTold tells 1 first lines text note last
  pub lines_are : taken ≡ lines ++ untold ∷ []
  pub written : IsTrue out_tells → out.now.written ≡ out.before.written ++ text

-- ---- words of private contracts

-- the lines end as they would, or a text can't be written
abbrev pub IsEndOf : (end result : LinesEnd) → Type 0
IsEndOf end result = (result ≡ end) ⊎ ((result ≡ ends.Write) × IsTrue (is_whole end))

-- one more line of the source was told
pub record HearsLine {T : Type 0} (tells : T → ℕ → List ℕ → List ℕ → List ℕ → T
    → Type 0) (number : ℕ) (old_lines new_lines : List (List ℕ)) (old new : T)
    (text text' note note' : List ℕ) : Type 0 where
  pub line : List ℕ
  pub more : new_lines ≡ old_lines ++ line ∷ []
  pub told_text : List ℕ
  pub told_note : List ℕ
  pub told : tells old number line told_text told_note new
  pub text_is : text' ≡ text ++ told_text
  pub note_is : note' ≡ note ++ told_note
