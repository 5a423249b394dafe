-- The bytes that are written are those of the definitions.
use Rattle.std.proofs.Common.{◌≡◌, ℕ, ◌+◌, ◌-◌, ◌*◌, ◌≤◌, List, ◌∷◌, ◌++◌, length, take, drop, replicate, ap, ◌∙◌, arith, append-nil}
use Rattle.std.proofs.lemmas.List.{take-replicate, drop-replicate}
use Rattle.std.proofs.Math.Seq.{take-append-add}
use Rattle.std.specs.Int.{w32, to_le_bytes}
use Rattle.afl_layer.specs.Fields.{fcl_of}
use Rattle.afl_layer.specs.Header.{afl_bytes}
use Rattle.downlink_maker.specs.Downlink.{blocks_for, plain_content, authentication_bytes, authentication_of}

-- the layer is written as its row says
pub afl_bytes-authentication_of : (down : ℕ) (mac : List ℕ) → length mac ≡ 8 →
    afl_bytes (fcl_of (authentication_of down mac)) (authentication_of down mac) ≡ authentication_bytes down mac
unfolding fcl_of
afl_bytes-authentication_of down mac h =
    let count : 2 + length (0x25 ∷ to_le_bytes w32 down ++ mac) ≡ 0x0F = omega arith in
    ap (λ (m : List ℕ). 0x90 ∷ (2 + length (0x25 ∷ to_le_bytes w32 down ++ m)) ∷ 0x00 ∷ 0x2C ∷ 0x25 ∷ to_le_bytes w32 down ++ m)
    (append-nil mac)
    ∙ ap (λ (n : ℕ). 0x90 ∷ n ∷ 0x00 ∷ 0x2C ∷ 0x25 ∷ to_le_bytes w32 down ++ mac) count

-- what stands behind the payload are fillers
pub take-filled : (payload : List ℕ) → length payload ≤ 94 →
    take (16 * blocks_for (length payload)) (0x2F ∷ 0x2F ∷ payload ++ drop (2 + length payload) (replicate 96 0x2F)) ≡ plain_content payload
take-filled payload h =
    let from : ℕ = 2 + length payload in
    let n : ℕ = 16 * blocks_for (length payload) - 2 - length payload in
    let front : List ℕ = 0x2F ∷ 0x2F ∷ payload in
    let count : 16 * blocks_for (length payload) ≡ length front + n = omega arith in
    ap (λ (k : ℕ). take k (front ++ drop from (replicate 96 0x2F))) count
    ∙ take-append-add front (drop from (replicate 96 0x2F)) n
    ∙ ap (λ (rest : List ℕ). front ++ rest) (ap (take n) (drop-replicate from 96 0x2F) ∙ take-replicate n (96 - from) 0x2F (omega arith))
