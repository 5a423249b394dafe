-- What holds of the definitions themselves.
use Rattle.std.specs.Prelude.{ℕ, ◌≡◌, ◌^◌, ◌<◌, List, Ok}
use Rattle.std.specs.List.{All}
use Rattle.aes_block.specs.Block.{IsBlock}
use Rattle.cbc_cmac.specs.Cbc.{cbc_decrypted}
use Rattle.cbc_cmac.specs.Mac.{zeros}
use Rattle.frame_formats.specs.Crc.{IsBytes}
use Rattle.frame_formats.specs.Frames.{IsTelegram}
use Rattle.frame_formats.specs.Decoding.{decoded_a}
use Rattle.meter_address.specs.declared.address.Address.{Address}
use Rattle.meter_address.specs.Commission.{Commissioned}
use Rattle.downlink_maker.specs.Downlink.{plain_content, cipher_key, encrypted_content, telegram_to, downlink}
use Rattle.downlink_maker.specs.Parts.{HasParts, parts_to, IsPayload}

-- a meter that decrypts the content under its cipher key has it in plain: two check bytes, the payload, and fillers
abbrev pub ContentIsReadBack : Type 0
ContentIsReadBack = (c : Commissioned) (down : ℕ) (payload : List ℕ) → IsBlock c.key → All (λ b. b < 256) payload →
    cbc_decrypted (cipher_key c down) zeros (encrypted_content c down payload) ≡ plain_content payload

-- the telegram of a downlink is a telegram of bytes, is decoded from its frame, and is laid out with its parts
pub record IsLaidOut (own : Address) (c : Commissioned) (down : ℕ) (payload : List ℕ) : Type 0 where
  pub telegram : IsTelegram (telegram_to own c down payload)
  pub bytes : IsBytes (telegram_to own c down payload)
  pub decoded : decoded_a (downlink own c down payload) ≡ Ok (telegram_to own c down payload)
  pub parts : HasParts own c.address (parts_to c down payload) (telegram_to own c down payload)

-- so is every downlink's
abbrev pub DownlinksAreLaidOut : Type 0
DownlinksAreLaidOut = (own : Address) (c : Commissioned) (down : ℕ) (payload : List ℕ) → IsBlock c.key → down < 2 ^ 32 → IsPayload payload →
    IsLaidOut own c down payload
