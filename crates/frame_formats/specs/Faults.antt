-- Why bytes are no frame: the first cause, in the order of `FrameFault`.
use Rattle.std.specs.Prelude.{ℕ, ◌≡◌, ◌≢◌, ◌+◌, ◌<◌, ◌≤◌, ◌⊎◌, List, [], ◌∷◌, ◌++◌, length}
use Rattle.frame_formats.specs.declared.fault.FrameFault.{FrameFault}
use Rattle.frame_formats.specs.declared.fault.FrameFault.TheVariants as faults
use Rattle.frame_formats.specs.declared.format.Format.{Format}
use Rattle.frame_formats.specs.declared.format.Format.TheVariants as formats
use Rattle.frame_formats.specs.Frames.{AreChecked}
use Rattle.frame_formats.specs.Decoding.{frame_len, pieces_a, pieces_b}

-- L is the first byte
pub record BeginsWith (bytes : List ℕ) (l : ℕ) : Type 0 where
  pub rest : List ℕ
  pub is : bytes ≡ l ∷ rest

-- a piece is a block, followed by its CRC
pub record IsChecked (piece : List ℕ) : Type 0 where
  pub block : List ℕ
  pub checked : AreChecked (block ∷ []) piece

abbrev pub AllChecked : List (List ℕ) → Type 0
AllChecked [] = Unit {0}
AllChecked (piece ∷ pieces) = IsChecked piece × AllChecked pieces

-- the n-th piece, counted from 1, is the first that is no block with its CRC
pub record IsFirstWrong (n : ℕ) (pieces : List (List ℕ)) : Type 0 where
  pub before : List (List ℕ)
  pub wrong : List ℕ
  pub behind : List (List ℕ)
  pub all : pieces ≡ before ++ wrong ∷ behind
  pub place : n ≡ length before + 1
  pub right : AllChecked before
  pub differs : ¬ IsChecked wrong

-- why bytes are no frame of format A
abbrev pub FaultA : List ℕ → FrameFault → Type 0
FaultA bytes faults.Empty = bytes ≡ []
FaultA bytes (faults.Short l) = BeginsWith bytes l × (l < 10)
FaultA bytes (faults.Gap l) = ⊥
FaultA bytes (faults.Length want have) =
    (l : ℕ) × BeginsWith bytes l × (10 ≤ l) × (want ≡ frame_len l) × (have ≡ length bytes) × (have ≢ want)
FaultA bytes (faults.Crc n) = (l : ℕ) × BeginsWith bytes l × (10 ≤ l) × (length bytes ≡ frame_len l) × IsFirstWrong n (pieces_a bytes)

-- L of format B that a length can have: it leaves out 128 and 129
pub record IsLengthB (l : ℕ) : Type 0 where
  pub least : 12 ≤ l
  pub not_128 : l ≢ 128
  pub not_129 : l ≢ 129

-- why bytes are no frame of format B
abbrev pub FaultB : List ℕ → FrameFault → Type 0
FaultB bytes faults.Empty = bytes ≡ []
FaultB bytes (faults.Short l) = BeginsWith bytes l × (l < 12)
FaultB bytes (faults.Gap l) = BeginsWith bytes l × ((l ≡ 128) ⊎ (l ≡ 129))
FaultB bytes (faults.Length want have) = (l : ℕ) × BeginsWith bytes l × IsLengthB l × (want ≡ l + 1) × (have ≡ length bytes) × (have ≢ want)
FaultB bytes (faults.Crc n) = (l : ℕ) × BeginsWith bytes l × IsLengthB l × (length bytes ≡ l + 1) × IsFirstWrong n (pieces_b bytes)

-- why bytes are no frame of this format
abbrev pub Fault : Format → List ℕ → FrameFault → Type 0
Fault formats.A bytes fault = FaultA bytes fault
Fault formats.B bytes fault = FaultB bytes fault
