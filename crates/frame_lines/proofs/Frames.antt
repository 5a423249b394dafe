-- The bytes of a frame of format A, and how many they are.
use Rattle.std.proofs.Common.{ℕ, zero, suc, ◌+◌, ◌-◌, ◌*◌, ◌/◌, ◌%◌, ◌≤◌, List, [], ◌∷◌, length, take, drop, arith, length-append}
use Rattle.std.specs.List.{flat_map}
use Rattle.std.proofs.lemmas.List.{length-take}
use Rattle.frame_formats.specs.Crc.{IsBytes, crc_of}
use Rattle.frame_formats.specs.Decoding.{with_crc, cut, frame_a}
use Rattle.frame_formats.proofs.Checked.{bytes-take, bytes-drop, bytes_joined}

with_crc_bytes : (block : List ℕ) → IsBytes block → IsBytes (with_crc block)
unfolding crc_of
with_crc_bytes block all = bytes_joined block (crc_of block / 256 ∷ crc_of block % 256 ∷ []) all (omega arith, (omega arith, tt))

checked_bytes : (k : ℕ) (bytes : List ℕ) → IsBytes bytes → IsBytes (flat_map with_crc (cut k 16 bytes))
unfolding cut
checked_bytes zero bytes all = tt
checked_bytes (suc k) bytes all =
    bytes_joined (with_crc (take 16 bytes)) _ (with_crc_bytes (take 16 bytes) (bytes-take 16 bytes all))
    (checked_bytes k (drop 16 bytes) (bytes-drop 16 bytes all))

pub frame_bytes : (t : List ℕ) → IsBytes t → IsBytes (frame_a t)
unfolding frame_a
frame_bytes t all =
    bytes_joined (with_crc (take 10 t)) _ (with_crc_bytes (take 10 t) (bytes-take 10 t all))
    (checked_bytes ((length t - 10 + 15) / 16) (drop 10 t) (bytes-drop 10 t all))

checked_few : (k : ℕ) (bytes : List ℕ) → length (flat_map with_crc (cut k 16 bytes)) ≤ 18 * k
unfolding cut
checked_few zero bytes = omega arith
checked_few (suc k) bytes =
    let block : List ℕ = take 16 bytes in
    omega (
      arith,
      checked_few k (drop 16 bytes),
      length-take 16 bytes,
      length-append block (crc_of block / 256 ∷ crc_of block % 256 ∷ []),
      length-append (with_crc block) (flat_map with_crc (cut k 16 (drop 16 bytes))),
    )

pub frame_few : (t : List ℕ) → length t ≤ 256 → length (frame_a t) ≤ 300
unfolding frame_a
frame_few t most =
    let block : List ℕ = take 10 t in
    let k : ℕ = (length t - 10 + 15) / 16 in
    omega (
      arith,
      checked_few k (drop 10 t),
      length-take 10 t,
      length-append block (crc_of block / 256 ∷ crc_of block % 256 ∷ []),
      length-append (with_crc block) (flat_map with_crc (cut k 16 (drop 10 t))),
      most,
    )
