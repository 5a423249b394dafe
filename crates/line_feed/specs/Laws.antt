-- What holds of what is fed.
use Rattle.std.specs.Prelude.{ℕ, ◌≡◌, List, ◌∷◌, ◌++◌, Ok}
use Rattle.std.specs.Str.Lines.{lines}
use Rattle.frame_lines.specs.Lines.{frame_text}
use Rattle.frame_lines.specs.Laws.{IsWhole, IsReadBack}
use Rattle.line_feed.specs.declared.heard.Reception.{Reception}
use Rattle.line_feed.specs.declared.printings.Printing.{Printing}
use Rattle.line_feed.specs.Lines.{heard_of}
use Rattle.line_feed.specs.Feeding.{IsMoment, IsReceiverLine}

-- what is heard is a telegram
abbrev pub TelegramsAreWhole : Type 0
TelegramsAreWhole = (printing : Printing) (line : List ℕ) (heard : Reception) → heard_of printing line ≡ Ok heard → IsWhole heard.telegram

-- the text is a line, whatever comes behind it, which is read as the telegram's frame, heard at this moment
pub record IsFedBack (heard : Reception) (text : List ℕ) : Type 0 where
  pub at : ℕ
  pub moment : IsMoment heard.moment at
  pub first : (rest : List ℕ) → lines (text ++ rest) ≡ frame_text at heard.telegram ∷ lines rest
  pub read : IsReadBack at heard.telegram (frame_text at heard.telegram)

-- what is printed for a line that is taken is read back
abbrev pub LinesAreReadBack : Type 0
LinesAreReadBack = (printing : Printing) (line : List ℕ) (heard : Reception) (text : List ℕ)
    → heard_of printing line ≡ Ok heard → IsReceiverLine heard text → IsFedBack heard text
