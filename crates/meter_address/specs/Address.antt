-- The address of a meter, and its text.
use Rattle.std.specs.Prelude.{ℕ, ◌≡◌, ◌≢◌, ◌<◌, ◌==◌, List, [], ◌∷◌, ◌++◌, length, take, drop, slice_index, false, Option, Some, None, Result, Ok, Err, if◌then◌else◌}
use Rattle.std.specs.List.{AllPass, list_any}
use Rattle.std.specs.Int.{w64, to_be_bytes, from_be_bytes}
use Rattle.hex.specs.Hex.{decode_of, encode_lower, is_hex_digit}
use Rattle.hex.specs.declared.error.FromHexError.{FromHexError}
use Rattle.meter_address.specs.declared.address.Address.{Address}
use Rattle.meter_address.specs.declared.address.AddressFault.{AddressFault}
use Rattle.meter_address.specs.declared.address.AddressFault.TheVariants as faults

-- the eight bytes of an address, the first one highest: M as sent (2), identification as sent (4), version, device type
unfoldable pub bytes_of : Address → List ℕ
bytes_of a = to_be_bytes w64 a.0

-- the identification of an address: four bytes as sent
abbrev pub identification_of : Address → List ℕ
identification_of a = take 4 (drop 2 (bytes_of a))

-- an address as a long transport header has it (EN 13757-7): identification, M, version and type, where the link layer has M first
abbrev pub header_order : Address → List ℕ
header_order a = identification_of a ++ (take 2 (bytes_of a) ++ drop 6 (bytes_of a))

-- the text of an address: two lower case digits for each byte, the high four bits first
abbrev pub text_of : Address → List ℕ
text_of a = encode_lower (bytes_of a)

-- the text spells the address: sixteen hexadecimal digits of either case, two for each of its bytes
abbrev pub Spells : List ℕ → Address → Type 0
Spells text a = decode_of text ≡ Ok (bytes_of a)

abbrev pub from_decoded : Result (List ℕ) FromHexError → Option Address
from_decoded (Ok bytes) = Some (record { 0 = from_be_bytes w64 bytes })
from_decoded (Err e) = None

-- the address that a text spells, if it spells one
unfoldable pub address_of : List ℕ → Option Address
address_of text = if length text == 16 then from_decoded (decode_of text) else None

-- the first byte of the text that is no hexadecimal digit stands at this place
pub record IsFirstOther (text : List ℕ) (place : ℕ) : Type 0 where
  pub within : place < length text
  pub other : is_hex_digit (slice_index text place) ≡ false
  pub before : AllPass is_hex_digit (take place text)

-- why a text is no address: it hasn't sixteen bytes, else one of them is no digit
abbrev pub IsFault : List ℕ → AddressFault → Type 0
IsFault text (faults.Length n) = (length text ≢ 16) × (n ≡ length text)
IsFault text (faults.Digit place) = (length text ≡ 16) × IsFirstOther text place

-- no two addresses are equal
abbrev pub AreApart : List Address → Type 0
AreApart [] = Unit {0}
AreApart (a ∷ others) = (list_any (λ b. b.0 == a.0) others ≡ false) × AreApart others
