-- What is told of a stream.
use Rattle.std.specs.Prelude.{ℕ, ◌≡◌, ◌≤◌, ◌+◌, ◌-◌, ◌^◌, Bool, true, false, List, [], ◌∷◌, ◌++◌, length, IsTrue}
use Rattle.std.specs.Str.Lines.{lines}
use Rattle.outer_io.specs.Shown.{Change, SourceShown, SinkShown}
use Rattle.line_reader.specs.Lines.{ended_lines}
use Rattle.line_teller.specs.declared.ending.LinesEnd.{LinesEnd}
use Rattle.line_teller.specs.declared.ending.LinesEnd.TheVariants as ends
use Rattle.line_teller.specs.Telling.{AreTold}
use Rattle.line_teller.specs.Ending.{AreFirst, EndsText, IsNoted, is_whole}
use Rattle.line_feed.specs.Opened.{Open, StandsAt}

-- Which lines were told, by how they end: all of the stream; those of the bytes taken that have their newline; or some first ones. A count of
-- 64 bits is at its end only behind so many bytes.
abbrev pub EndsStream : LinesEnd → (taken left : List ℕ) → List (List ℕ) → Type 0
EndsStream ends.Done taken left told = (left ≡ []) × (told ≡ lines taken)
EndsStream ends.Read taken left told = told ≡ ended_lines taken
EndsStream ends.Cut taken left told = (2 ^ 64 - 1 ≤ length taken) × AreFirst told (lines taken)
EndsStream ends.Write taken left told = AreFirst told (lines taken)
EndsStream ends.Memory taken left told = AreFirst told (lines taken)

-- The lines of a stream, numbered from 1, were told on two sinks, of which contracts know the bytes where they tell them.
pub record StreamEnded {T : Type 0} (tells : T → ℕ → List ℕ → List ℕ → List ℕ → T → Type 0) (first now : T) (end : LinesEnd)
    (source : SourceShown) (out_tells : Bool) (out : Change SinkShown) (notes_tell : Bool) (notes : Change SinkShown) : Type 0 where
  pub lines : List (List ℕ)
  pub text : List ℕ
  pub note : List ℕ
  pub last : T
  pub told : AreTold tells 1 first lines text note last
  pub lines_are : EndsStream end source.taken source.left lines
  -- the teller at the end is the one that the lines left, where every line was told that could be read
  pub last_is : IsTrue (is_whole end) → last ≡ now
  pub written : IsTrue out_tells → EndsText end text out
  pub noted : IsTrue notes_tell → IsNoted note notes

-- ---- one read

-- More lines were told, numbered from a number on, and all their texts were written.
pub record TellsMore {T : Type 0} (tells : T → ℕ → List ℕ → List ℕ → List ℕ → T → Type 0) (number : ℕ) (old new : T) (lines : List (List ℕ))
    (out_tells : Bool) (out : Change SinkShown) (notes_tell : Bool) (notes : Change SinkShown) : Type 0 where
  pub text : List ℕ
  pub note : List ℕ
  pub told : AreTold tells number old lines text note new
  pub written : IsTrue out_tells → out.now.written ≡ out.before.written ++ text
  pub noted : IsTrue notes_tell → IsNoted note notes

-- More bytes were read of a stream, and the lines that they finished were told, and all that was told of them was written.
pub record Goes {T : Type 0} (tells : T → ℕ → List ℕ → List ℕ → List ℕ → T → Type 0) (bytes bytes' : List ℕ) (begun begun' : Open) (old new : T)
    (out_tells : Bool) (out : Change SinkShown) (notes_tell : Bool) (notes : Change SinkShown) : Type 0 where
  pub lines : List (List ℕ)
  pub more : ended_lines bytes' ≡ ended_lines bytes ++ lines
  pub told : TellsMore tells (begun.finished + 1) old new lines out_tells out notes_tell notes
  pub stands : StandsAt bytes' begun'

-- The last lines were told, numbered from a number on.
pub record TellsLast {T : Type 0} (tells : T → ℕ → List ℕ → List ℕ → List ℕ → T → Type 0) (number : ℕ) (old new : T) (lines : List (List ℕ))
    (end : LinesEnd) (out_tells : Bool) (out : Change SinkShown) (notes_tell : Bool) (notes : Change SinkShown) : Type 0 where
  pub text : List ℕ
  pub note : List ℕ
  pub last : T
  pub told : AreTold tells number old lines text note last
  pub last_is : IsTrue (is_whole end) → last ≡ new
  pub written : IsTrue out_tells → EndsText end text out
  pub noted : IsTrue notes_tell → IsNoted note notes

-- The stream ends: perhaps with more lines told.
pub record EndsRead {T : Type 0} (tells : T → ℕ → List ℕ → List ℕ → List ℕ → T → Type 0) (bytes taken left : List ℕ) (begun : Open) (old new : T)
    (end : LinesEnd) (out_tells : Bool) (out : Change SinkShown) (notes_tell : Bool) (notes : Change SinkShown) : Type 0 where
  pub lines : List (List ℕ)
  pub lines_are : EndsStream end taken left (ended_lines bytes ++ lines)
  pub told : TellsLast tells (begun.finished + 1) old new lines end out_tells out notes_tell notes

-- ---- words of private contracts

-- only these ends come in the middle of bytes
abbrev pub is_stop : LinesEnd → Bool
is_stop ends.Done = false
is_stop ends.Read = false
is_stop ends.Cut = true
is_stop ends.Write = true
is_stop ends.Memory = true

-- the stream ends within the lines that are finished by these bytes
pub record Stops {T : Type 0} (tells : T → ℕ → List ℕ → List ℕ → List ℕ → T → Type 0) (bytes bytes' : List ℕ) (begun : Open) (old new : T)
    (end : LinesEnd) (out_tells : Bool) (out : Change SinkShown) (notes_tell : Bool) (notes : Change SinkShown) : Type 0 where
  pub lines : List (List ℕ)
  pub stops : IsTrue (is_stop end)
  pub first : AreFirst (ended_lines bytes ++ lines) (ended_lines bytes')
  pub many : end ≡ ends.Cut → 2 ^ 64 - 1 ≤ length bytes'
  pub told : TellsLast tells (begun.finished + 1) old new lines end out_tells out notes_tell notes

-- a line wasn't told, or its text wasn't written
pub record StopsAtLine {T : Type 0} (tells : T → ℕ → List ℕ → List ℕ → List ℕ → T → Type 0) (number : ℕ) (line : List ℕ) (old new : T)
    (end : LinesEnd) (out_tells : Bool) (out : Change SinkShown) (notes_tell : Bool) (notes : Change SinkShown) : Type 0 where
  pub lines : List (List ℕ)
  pub unwhole : is_whole end ≡ false
  pub first : AreFirst lines (line ∷ [])
  pub told : TellsLast tells number old new lines end out_tells out notes_tell notes
