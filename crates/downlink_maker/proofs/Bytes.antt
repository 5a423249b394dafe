-- What a downlink consists of are bytes.
use Rattle.std.proofs.Common.{ℕ, ◌<◌, ◌≤◌, List, [], ◌∷◌, drop, refl, arith}
use Rattle.std.proofs.lemmas.List.Elements.{All-nil, All-cons, All-head, All-tail, All-append, All-take, All-drop, All-replicate}
use Rattle.std.specs.Int.{w32, to_le_bytes}
use Rattle.aes_block.specs.Block.{IsBlock}
use Rattle.aes_block.proofs.Lists.{AreBytes}
use Rattle.aes_block.proofs.Mixing.{AreBytes-4}
use Rattle.cbc_cmac.specs.Mac.{zeros}
use Rattle.cbc_cmac.proofs.MacBlocks.{AreBytes-bytes_high_first}
use Rattle.key_derivation.specs.declared.KeyUse.{KeyUse}
use Rattle.key_derivation.specs.Derivation.{derived}
use Rattle.key_derivation.proofs.DerivedKeys.{IsBlock-derived}
use Rattle.frame_formats.specs.Crc.{IsBytes}
use Rattle.meter_address.specs.declared.address.Address.{Address}
use Rattle.meter_address.specs.Address.{bytes_of, identification_of}
use Rattle.meter_address.specs.Commission.{Commissioned}
use Rattle.downlink_maker.specs.Downlink.{link_bytes, header_bytes, authentication_bytes}

abbrev pub Byte : ℕ → Type 0
Byte b = b < 256

-- bytes in both words
pub bytes_all : (xs : List ℕ) → IsBytes xs → AreBytes xs
bytes_all [] h = All-nil Byte
bytes_all (x ∷ xs) h = All-cons Byte x xs h.0 (bytes_all xs h.1)

pub all_bytes : (xs : List ℕ) → AreBytes xs → IsBytes xs
all_bytes [] h = tt
all_bytes (x ∷ xs) h = (All-head Byte x xs h, all_bytes xs (All-tail Byte x xs h))

pub AreBytes-bytes_of : (a : Address) → AreBytes (bytes_of a)
unfolding bytes_of
AreBytes-bytes_of a = AreBytes-bytes_high_first 8 a.0

pub AreBytes-identification_of : (a : Address) → AreBytes (identification_of a)
AreBytes-identification_of a = All-take Byte 4 (drop 2 (bytes_of a)) (All-drop Byte 2 (bytes_of a) (AreBytes-bytes_of a))

pub IsBlock-zeros : IsBlock zeros
IsBlock-zeros = record { count = refl; bytes = All-replicate Byte 16 0 (omega arith) }

-- a derived key is a block
pub IsBlock-key : (c : Commissioned) (purpose : KeyUse) (down : ℕ) → IsBlock c.key
    → IsBlock (derived c.key purpose down (identification_of c.address))
IsBlock-key c purpose down key = IsBlock-derived c.key purpose down (identification_of c.address) key (AreBytes-identification_of c.address)

pub AreBytes-1 : (a : ℕ) → a < 256 → AreBytes (a ∷ [])
AreBytes-1 a h = All-cons Byte a [] h (All-nil Byte)

pub AreBytes-counter : (down : ℕ) → AreBytes (to_le_bytes w32 down)
AreBytes-counter down = AreBytes-4 _ _ _ _ (omega arith) (omega arith) (omega arith) (omega arith)

-- ---- the layers

pub AreBytes-link_bytes : (own : Address) (blocks : ℕ) → blocks ≤ 6 → AreBytes (link_bytes own blocks)
unfolding bytes_of
AreBytes-link_bytes own blocks h =
    let all : IsBytes (link_bytes own blocks) = search arith depth 20 in
    bytes_all (link_bytes own blocks) all

pub AreBytes-authentication_bytes : (down : ℕ) (mac : List ℕ) → AreBytes mac → AreBytes (authentication_bytes down mac)
AreBytes-authentication_bytes down mac h =
    let front : IsBytes (authentication_bytes down []) = search arith in
    All-append Byte (authentication_bytes down []) mac (bytes_all (authentication_bytes down []) front) h

pub AreBytes-header_bytes : (meter : Address) (down blocks : ℕ) → AreBytes (header_bytes meter down blocks)
unfolding bytes_of
AreBytes-header_bytes meter down blocks =
    let all : IsBytes (header_bytes meter down blocks) = search arith depth 20 in
    bytes_all (header_bytes meter down blocks) all
