-- Telegrams, and their frames of formats A and B (EN 13757-4).
use Rattle.std.specs.Prelude.{ℕ, ◌≡◌, ◌+◌, ◌/◌, ◌%◌, ◌<◌, ◌≤◌, ◌⊎◌, List, [], ◌∷◌, ◌++◌, length, take, drop, slice_index}
use Rattle.std.specs.List.{concat}
use Rattle.frame_formats.specs.Crc.{IsCrc}
use Rattle.frame_formats.specs.declared.format.Format.{Format}
use Rattle.frame_formats.specs.declared.format.Format.TheVariants as formats

-- a telegram, without CRCs: its first byte counts those behind it
pub record IsTelegram (t : List ℕ) : Type 0 where
  pub least : 11 ≤ length t
  pub most : length t ≤ 256
  pub counted : slice_index t 0 + 1 ≡ length t

-- the bytes are these blocks, each followed by its CRC, high byte first
abbrev pub AreChecked : List (List ℕ) → List ℕ → Type 0
AreChecked [] bytes = bytes ≡ []
AreChecked (b ∷ blocks) bytes = (c : ℕ) × (rest : List ℕ) × IsCrc b c × (bytes ≡ b ++ c / 256 ∷ c % 256 ∷ rest) × AreChecked blocks rest

-- blocks of 16 bytes, of which the last may be shorter
abbrev pub AreSixteens : List (List ℕ) → Type 0
AreSixteens [] = ⊥
AreSixteens (b ∷ []) = (0 < length b) × (length b ≤ 16)
AreSixteens (b ∷ c ∷ blocks) = (length b ≡ 16) × AreSixteens (c ∷ blocks)

-- format A: the telegram is cut after 10 bytes and then after every 16, and each block is followed by its CRC
pub record FrameA (bytes t : List ℕ) : Type 0 where
  pub telegram : IsTelegram t
  pub first : List ℕ
  pub others : List (List ℕ)
  pub ten : length first ≡ 10
  pub sixteens : AreSixteens others
  pub content : t ≡ first ++ concat others
  pub frame : AreChecked (first ∷ others) bytes

-- one block, for L from 12 to 127
pub record OneBlock (l : ℕ) (sent bytes : List ℕ) : Type 0 where
  pub least : 12 ≤ l
  pub most : l ≤ 127
  pub frame : AreChecked (sent ∷ []) bytes

-- two blocks, of which the first has 126 bytes, for L from 130 to 255
pub record TwoBlocks (l : ℕ) (sent bytes : List ℕ) : Type 0 where
  pub least : 130 ≤ l
  pub most : l ≤ 255
  pub frame : AreChecked (take 126 sent ∷ drop 126 sent ∷ []) bytes

-- format B: L counts all bytes behind it, CRCs included, and is sent as the telegram's first byte
pub record FrameB (bytes t : List ℕ) : Type 0 where
  pub telegram : IsTelegram t
  pub l : ℕ
  pub counted : l + 1 ≡ length bytes
  pub blocks : OneBlock l (l ∷ drop 1 t) bytes ⊎ TwoBlocks l (l ∷ drop 1 t) bytes

-- the bytes are a frame of this format of the telegram
abbrev pub Frame : Format → List ℕ → List ℕ → Type 0
Frame formats.A bytes t = FrameA bytes t
Frame formats.B bytes t = FrameB bytes t
