-- The telegrams of a made session (EN 13757-4, EN 13757-7, OMS Volume 2).
use Rattle.std.specs.Prelude.{ℕ, ◌%◌, List, [], ◌∷◌, ◌++◌, None}
use Rattle.meter_address.specs.Address.{bytes_of, identification_of}
use Rattle.meter_address.specs.Commission.{Commissioned}
use Rattle.cbc_cmac.specs.Cbc.{cbc_encrypted}
use Rattle.cbc_cmac.specs.Mac.{zeros}
use Rattle.key_derivation.specs.declared.KeyUse.TheVariants.{MeterCipher, MeterMac}
use Rattle.key_derivation.specs.Derivation.{derived}
use Rattle.message_check.specs.Opening.{mac_of}
use Rattle.downlink_maker.specs.Downlink.{plain_content, authentication_bytes}
use Rattle.made_input.specs.Meters.{bcd}

-- a data record: a volume in litres, in eight decimal digits
abbrev pub volume : ℕ → List ℕ
volume n = 0x0C ∷ 0x13 ∷ bcd n

-- a transport header without an address: access number 1, no status, security mode 7 with one encrypted block, keys derived by CMAC
abbrev pub header : List ℕ
header = 0x7A ∷ 0x01 ∷ 0x00 ∷ 0x10 ∷ 0x07 ∷ 0x10 ∷ []

-- the content of the n-th message: two check bytes, the volume n and fillers, under the cipher key; CBC begins with zeros
unfoldable pub content_of : Commissioned → ℕ → List ℕ
content_of c n = cbc_encrypted (derived c.key MeterCipher n (identification_of c.address)) zeros (plain_content (volume n))

abbrev pub message_of : Commissioned → ℕ → List ℕ
message_of c n = header ++ content_of c n

-- the MAC of a message of the meter with this counter
unfoldable pub mac_under : Commissioned → ℕ → List ℕ → List ℕ
mac_under c n message = mac_of (derived c.key MeterMac n (identification_of c.address)) 0x25 n None message

-- the telegram of the meter with the counter n: SND-NR, an authentication layer of a whole message, and the message
unfoldable pub uplink : Commissioned → ℕ → List ℕ
uplink c n = 0x30 ∷ 0x44 ∷ bytes_of c.address ++ authentication_bytes n (mac_under c n (message_of c n)) ++ message_of c n

-- a telegram of a meter that isn't commissioned, in which the line's number stands as its access number
unfoldable pub stranger : ℕ → List ℕ
stranger number =
    0x0E ∷ 0x44 ∷ 0x93 ∷ 0x15 ∷ 0x99 ∷ 0x99 ∷ 0x99 ∷ 0x99 ∷ 0x01 ∷ 0x07 ∷ 0x7A ∷ (number % 256) ∷ 0x00 ∷ 0x00 ∷ 0x00 ∷ []
