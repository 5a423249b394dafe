-- What a decoder answers: the telegram of a frame, or the first fault. And the frame that an encoder writes.
use Rattle.std.specs.Prelude.{ℕ, zero, suc, Bool, false, ◌+◌, ◌-◌, ◌*◌, ◌/◌, ◌%◌, ◌||◌, List, [], ◌∷◌, ◌++◌, length, take, drop, slice_index, Result, Ok, Err, nat_lt, nat_eq, if◌then◌else◌}
use Rattle.std.specs.List.{flat_map}
use Rattle.lists.specs.Steps.{◌>>=◌}
use Rattle.frame_formats.specs.Crc.{crc_of}
use Rattle.frame_formats.specs.declared.fault.FrameFault.{FrameFault}
use Rattle.frame_formats.specs.declared.fault.FrameFault.TheVariants as faults
use Rattle.frame_formats.specs.declared.format.Format.{Format}
use Rattle.frame_formats.specs.declared.format.Format.TheVariants as formats

-- so many pieces of this size, of which the last may be shorter
unfoldable pub cut : ℕ → ℕ → List ℕ → List (List ℕ)
cut zero size bytes = []
cut (suc k) size bytes = take size bytes ∷ cut k size (drop size bytes)

-- the block of the n-th piece: what stands before its last two bytes, where these are its CRC
unfoldable pub block_of : ℕ → List ℕ → Result (List ℕ) FrameFault
block_of n piece =
    let size : ℕ = length piece - 2 in
    if nat_eq (crc_of (take size piece)) (slice_index piece size * 256 + slice_index piece (size + 1)) then Ok (take size piece)
    else Err (faults.Crc n)

-- the blocks of these pieces, joined; the first piece is the n-th
unfoldable pub content_of : ℕ → List (List ℕ) → Result (List ℕ) FrameFault
content_of n [] = Ok []
content_of n (piece ∷ pieces) = do
  block ← block_of n piece
  others ← content_of (n + 1) pieces
  Ok (block ++ others)

-- how many bytes a frame of format A with this L has
abbrev pub frame_len : ℕ → ℕ
frame_len l = l + 1 + 2 * (1 + (l - 9 + 15) / 16)

-- a frame of format A in its blocks, each with its CRC
abbrev pub pieces_a : List ℕ → List (List ℕ)
pieces_a bytes = take 12 bytes ∷ cut ((length bytes - 12 + 17) / 18) 18 (drop 12 bytes)

-- a frame of format B in its blocks, each with its CRC
abbrev pub pieces_b : List ℕ → List (List ℕ)
pieces_b bytes = if nat_lt (length bytes) 129 then bytes ∷ [] else take 128 bytes ∷ drop 128 bytes ∷ []

-- what was sent, with its own length less one as its first byte
abbrev pub counted : List ℕ → List ℕ
counted sent = (length sent - 1) ∷ drop 1 sent

-- the telegram of so many bytes as their L says, or the first fault
unfoldable pub telegram_b : List ℕ → Result (List ℕ) FrameFault
telegram_b bytes = do
  sent ← content_of 1 (pieces_b bytes)
  Ok (counted sent)

-- ---- either format

-- the least L
abbrev pub least : Format → ℕ
least formats.A = 10
least formats.B = 12

-- format B leaves out L of 128 and 129
abbrev pub leaves_out : Format → ℕ → Bool
leaves_out formats.A l = false
leaves_out formats.B l = nat_eq l 128 || nat_eq l 129

-- how many bytes a frame with this L has
abbrev pub whole_len : Format → ℕ → ℕ
whole_len formats.A l = frame_len l
whole_len formats.B l = l + 1

-- the telegram in the blocks of as many bytes as L says, or the fault of the first wrong block
abbrev pub telegram_in : Format → List ℕ → Result (List ℕ) FrameFault
telegram_in formats.A bytes = content_of 1 (pieces_a bytes)
telegram_in formats.B bytes = telegram_b bytes

-- the telegram of a frame, or the first fault
unfoldable pub decoded : Format → List ℕ → Result (List ℕ) FrameFault
decoded format bytes =
    let l : ℕ = slice_index bytes 0 in
    if nat_eq (length bytes) 0 then Err faults.Empty
    else if nat_lt l (least format) then Err (faults.Short l)
    else if leaves_out format l then Err (faults.Gap l)
    else if nat_eq (length bytes) (whole_len format l) then telegram_in format bytes
    else Err (faults.Length (whole_len format l) (length bytes))

abbrev pub decoded_a : List ℕ → Result (List ℕ) FrameFault
decoded_a bytes = decoded formats.A bytes

abbrev pub decoded_b : List ℕ → Result (List ℕ) FrameFault
decoded_b bytes = decoded formats.B bytes

-- ---- writing

-- a block, followed by its CRC, high byte first
abbrev pub with_crc : List ℕ → List ℕ
with_crc block = block ++ crc_of block / 256 ∷ crc_of block % 256 ∷ []

-- the frame of format A of a telegram
unfoldable pub frame_a : List ℕ → List ℕ
frame_a t = with_crc (take 10 t) ++ flat_map with_crc (cut ((length t - 10 + 15) / 16) 16 (drop 10 t))
