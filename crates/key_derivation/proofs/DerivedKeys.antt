-- A derived key is a block: 16 bytes.
use Rattle.std.proofs.Common.{ℕ, ◌<◌, List, ◌++◌, replicate, arith}
use Rattle.std.proofs.lemmas.List.Elements.{All-cons, All-append, All-replicate}
use Rattle.std.specs.Int.{w32, to_le_bytes}
use Rattle.aes_block.proofs.Lists.{AreBytes}
use Rattle.aes_block.proofs.Mixing.{AreBytes-4}
use Rattle.aes_block.specs.Block.{IsBlock}
use Rattle.cbc_cmac.proofs.MacBlocks.{IsBlock-cmac}
use Rattle.key_derivation.specs.declared.KeyUse.{KeyUse}
use Rattle.key_derivation.specs.declared.KeyUse.TheVariants.{MeterCipher, MeterMac, PartnerCipher, PartnerMac}
use Rattle.key_derivation.specs.Derivation.{constant_of, derivation_input, derived}

constant_of-lt : (purpose : KeyUse) → constant_of purpose < 256
constant_of-lt MeterCipher = omega arith
constant_of-lt MeterMac = omega arith
constant_of-lt PartnerCipher = omega arith
constant_of-lt PartnerMac = omega arith

pub AreBytes-derivation_input : (purpose : KeyUse) (counter : ℕ) (id : List ℕ) → AreBytes id
    → AreBytes (derivation_input purpose counter id)
AreBytes-derivation_input purpose counter id h =
    let P : ℕ → Type 0 = λ x. x < 256 in
    let counted : AreBytes (to_le_bytes w32 counter) = AreBytes-4 _ _ _ _ (omega arith) (omega arith) (omega arith) (omega arith) in
    All-cons P (constant_of purpose) (to_le_bytes w32 counter ++ id ++ replicate 7 7) (constant_of-lt purpose)
    (All-append P (to_le_bytes w32 counter ++ id) (replicate 7 7) (All-append P (to_le_bytes w32 counter) id counted h)
    (All-replicate P 7 7 (omega arith)))

pub IsBlock-derived : (key : List ℕ) (purpose : KeyUse) (counter : ℕ) (id : List ℕ) → IsBlock key → AreBytes id
    → IsBlock (derived key purpose counter id)
unfolding derived
IsBlock-derived key purpose counter id hk hi =
    IsBlock-cmac key (derivation_input purpose counter id) hk (AreBytes-derivation_input purpose counter id hi)
