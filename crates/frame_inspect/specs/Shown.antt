-- What is shown of lines: what their frames' layers say, and below it what their messages do.
use Rattle.std.specs.Prelude.{ℕ, ◌≡◌, ◌+◌, List, [], ◌∷◌, ◌++◌, Result}
use Rattle.meter_address.specs.Commission.{Commissioned}
use Rattle.line_reader.specs.Grammar.{line_of}
use Rattle.line_reader.specs.declared.line.Line.{Line}
use Rattle.line_reader.specs.declared.line.BadLine.{BadLine}
use Rattle.frame_inspect_main.specs.Layered.{said_line}
use Rattle.frame_inspect.specs.declared.serving.Answer.{Answer}
use Rattle.frame_inspect.specs.declared.telling.Opener.{Opener}
use Rattle.frame_inspect.specs.Below.{below_text}
use Rattle.frame_inspect.specs.Serving.{answer_text}

-- what is shown of a line: its layers, as without keys, and below them what it says under the keys of these meters
abbrev pub shown_text : List Commissioned → ℕ → List ℕ → List ℕ
shown_text meters number line = said_line number (line_of line) ++ below_text meters (line_of line)

-- what is shown of lines, one after another, numbered on from a first number
abbrev pub shown_from : List Commissioned → ℕ → List (List ℕ) → List ℕ
shown_from meters number [] = []
shown_from meters number (line ∷ lines) = shown_text meters number line ++ shown_from meters (number + 1) lines

-- ---- words of private contracts

-- a line that says this, and below it this answer
unfoldable pub answered_text : ℕ → Result Line BadLine → Answer → List ℕ
answered_text number said answer = said_line number said ++ answer_text answer

-- a line is shown, and nothing is noted of it
pub record ShowsLine (old : Opener) (number : ℕ) (line text note : List ℕ) (new : Opener) : Type 0 where
  pub text_is : text ≡ shown_text old.roster.meters number line
  pub note_is : note ≡ []
  pub new_is : new ≡ old
