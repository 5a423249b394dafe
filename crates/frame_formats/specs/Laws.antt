-- What holds of frames as such.
use Rattle.std.specs.Prelude.{ℕ, ◌≡◌, ◌↔◌, List, Ok}
use Rattle.frame_formats.specs.Crc.{IsBytes}
use Rattle.frame_formats.specs.declared.format.Format.{Format}
use Rattle.frame_formats.specs.Frames.{IsTelegram, FrameA, FrameB, Frame}
use Rattle.frame_formats.specs.Decoding.{frame_a, decoded, decoded_a}

-- bytes are a frame of format A of at most one telegram
abbrev pub OneTelegramA : Type 0
OneTelegramA = (bytes t u : List ℕ) → IsBytes bytes → FrameA bytes t → FrameA bytes u → t ≡ u

-- bytes are a frame of format B of at most one telegram
abbrev pub OneTelegramB : Type 0
OneTelegramB = (bytes t u : List ℕ) → IsBytes bytes → FrameB bytes t → FrameB bytes u → t ≡ u

-- a telegram has one frame of format A, which is read back
abbrev pub OneFrameA : Type 0
OneFrameA = (t : List ℕ) → IsTelegram t → IsBytes t →
    FrameA (frame_a t) t × (decoded_a (frame_a t) ≡ Ok t) × ((bytes : List ℕ) → IsBytes bytes → FrameA bytes t → bytes ≡ frame_a t)

-- what bytes are decoded to is the telegram whose frame they are
abbrev pub FramesAreDecoded : Type 0
FramesAreDecoded = (format : Format) (bytes t : List ℕ) → IsBytes bytes → (decoded format bytes ≡ Ok t) ↔ Frame format bytes t

-- a frame of bytes has a telegram of bytes
abbrev pub TelegramsAreBytes : Type 0
TelegramsAreBytes = (format : Format) (bytes t : List ℕ) → IsBytes bytes → Frame format bytes t → IsBytes t
