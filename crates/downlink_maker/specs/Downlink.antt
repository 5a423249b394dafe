-- The downlink that carries a command to a meter: the telegram of EN 13757-4, with an authentication and fragmentation layer
-- (EN 13757-7), a long transport header (EN 13757-3) and a message of security mode 7 (OMS Volume 2). Below, a is the meter's address,
-- c what is commissioned of the meter, and down the counter of the downlink.
use Rattle.std.specs.Prelude.{ℕ, ◌+◌, ◌-◌, ◌*◌, ◌/◌, ◌%◌, false, List, [], ◌∷◌, ◌++◌, length, take, replicate, Some, None}
use Rattle.std.specs.Int.{w16, w32, to_le_bytes}
use Rattle.meter_address.specs.declared.address.Address.{Address}
use Rattle.meter_address.specs.Address.{bytes_of, identification_of, header_order}
use Rattle.meter_address.specs.Commission.{Commissioned}
use Rattle.afl_layer.specs.declared.header.Afl.{Afl}
use Rattle.frame_formats.specs.Decoding.{frame_a}
use Rattle.cbc_cmac.specs.Cbc.{cbc_encrypted}
use Rattle.cbc_cmac.specs.Mac.{zeros, cmac}
use Rattle.key_derivation.specs.declared.KeyUse.TheVariants.{PartnerCipher, PartnerMac}
use Rattle.key_derivation.specs.Derivation.{derived}

-- the least number of blocks of 16 bytes that two check bytes and a payload of p bytes fit in
abbrev pub blocks_for : ℕ → ℕ
blocks_for p = (p + 2 + 15) / 16

-- the link layer in front: L, which counts all bytes behind it, C of SND-UD2, and M and A, the collector's own address
abbrev pub link_bytes : Address → ℕ → List ℕ
link_bytes own blocks = (40 + 16 * blocks) ∷ 0x43 ∷ bytes_of own

-- the configuration field: mode 7, and the number of encrypted blocks in bits 7 to 4
abbrev pub configuration : ℕ → ℕ
configuration blocks = 0x0700 + 16 * blocks

-- the transport header: CI of a command, the meter's address, the low byte of the counter as access number, the status, and the
-- configuration field with its extension, which says that the keys are derived by CMAC
abbrev pub header_bytes : Address → ℕ → ℕ → List ℕ
header_bytes a down blocks = 0x5B ∷ header_order a ++ (down % 256) ∷ 0x00 ∷ to_le_bytes w16 (configuration blocks) ++ 0x10 ∷ []

-- the content in plain: two check bytes, the payload, and fillers up to whole blocks
abbrev pub plain_content : List ℕ → List ℕ
plain_content payload = 0x2F ∷ 0x2F ∷ payload ++ replicate (16 * blocks_for (length payload) - 2 - length payload) 0x2F

-- the keys that are derived for a message to the meter: that of its encryption, and that of its MAC
abbrev pub cipher_key : Commissioned → ℕ → List ℕ
cipher_key c down = derived c.key PartnerCipher down (identification_of c.address)

abbrev pub mac_key : Commissioned → ℕ → List ℕ
mac_key c down = derived c.key PartnerMac down (identification_of c.address)

-- the content under the cipher key; CBC begins with zeros
unfoldable pub encrypted_content : Commissioned → ℕ → List ℕ → List ℕ
encrypted_content c down payload = cbc_encrypted (cipher_key c down) zeros (plain_content payload)

-- the message: its transport header, and its encrypted content
unfoldable pub message_bytes : Commissioned → ℕ → List ℕ → List ℕ
message_bytes c down payload = header_bytes c.address down (blocks_for (length payload)) ++ encrypted_content c down payload

-- the MAC: the first eight bytes of the CMAC of the message control, the counter and the message under the MAC key
unfoldable pub mac_of : Commissioned → ℕ → List ℕ → List ℕ
mac_of c down payload = take 8 (cmac (mac_key c down) (0x25 ∷ to_le_bytes w32 down ++ message_bytes c down payload))

-- the authentication and fragmentation layer: CI, its length, the control of a whole message with message control, counter and
-- MAC, and these three
abbrev pub authentication_bytes : ℕ → List ℕ → List ℕ
authentication_bytes down mac = 0x90 ∷ 0x0F ∷ 0x00 ∷ 0x2C ∷ 0x25 ∷ to_le_bytes w32 down ++ mac

-- what is read of that layer
abbrev pub authentication_of : ℕ → List ℕ → Afl
authentication_of down mac =
    record { more = false; fid = 0; mcl = Some 0x25; ki = None; mcr = Some down; mac = Some mac; ml = None; len = 17 }

-- the telegram to the meter
unfoldable pub telegram_to : Address → Commissioned → ℕ → List ℕ → List ℕ
telegram_to own c down payload =
    link_bytes own (blocks_for (length payload)) ++ authentication_bytes down (mac_of c down payload) ++ message_bytes c down payload

-- its frame of format A
abbrev pub downlink : Address → Commissioned → ℕ → List ℕ → List ℕ
downlink own c down payload = frame_a (telegram_to own c down payload)
