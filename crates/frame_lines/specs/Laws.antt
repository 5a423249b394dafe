-- The line of a telegram is read back.
use Rattle.std.specs.Prelude.{ℕ, ◌≡◌, ◌<◌, ◌≤◌, ◌^◌, List, ◌∷◌, ◌++◌, length, Ok}
use Rattle.std.specs.Str.Lines.{lines}
use Rattle.frame_formats.specs.Crc.{IsBytes}
use Rattle.frame_formats.specs.declared.format.Format.TheVariants.{A}
use Rattle.frame_formats.specs.Frames.{IsTelegram}
use Rattle.frame_formats.specs.Decoding.{frame_a, decoded}
use Rattle.line_reader.specs.declared.line.Line.TheVariants.{Frame}
use Rattle.line_reader.specs.Grammar.{line_of}
use Rattle.frame_lines.specs.Lines.{frame_text, frame_line}

-- the bytes are a telegram
pub record IsWhole (t : List ℕ) : Type 0 where
  pub telegram : IsTelegram t
  pub bytes : IsBytes t

-- the text says a frame of format A, heard at this moment, which is decoded to the telegram
pub record IsReadBack (at : ℕ) (t text : List ℕ) : Type 0 where
  pub line : line_of text ≡ Ok (Frame A at (frame_a t))
  pub decoded_is : decoded A (frame_a t) ≡ Ok t

-- the line of a telegram, without its end, is read back
abbrev pub LinesAreReadBack : Type 0
LinesAreReadBack = (at : ℕ) (t : List ℕ) → at < 2 ^ 64 → IsWhole t → IsReadBack at t (frame_text at t)

-- the line is the first of a text, whatever comes behind it, and within the length of a receiver's line
pub record IsOneLine (at : ℕ) (t : List ℕ) : Type 0 where
  pub first : (rest : List ℕ) → lines (frame_line at t ++ rest) ≡ frame_text at t ∷ lines rest
  pub short : length (frame_text at t) ≤ 1024

abbrev pub LinesStandAlone : Type 0
LinesStandAlone = (at : ℕ) (t : List ℕ) → at < 2 ^ 64 → IsWhole t → IsOneLine at t
