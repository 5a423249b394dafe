-- What stands on a meter's label, and the address that says the same.
use Rattle.std.specs.Prelude.{ℕ, ◌≡◌, ◌+◌, ◌-◌, ◌*◌, ◌<◌, ◌&&◌, nat_le, Bool, List, [], ◌∷◌, length, drop, reverse, Option, Some, None, if◌then◌else◌}
use Rattle.std.specs.Int.{w16, w64, from_be_bytes, to_le_bytes}
use Rattle.meter_address.specs.declared.address.Address.{Address}
use Rattle.meter_address.specs.Address.{bytes_of, identification_of}
use Rattle.hex.specs.Hex.{IsBytes}
use Rattle.meter_address.specs.Letters.{AreLetters, manufacturer_of, letters_of}
use Rattle.meter_label.specs.declared.label.Label.{Label}

-- The label says what the address says: the maker by its letters, the identification the other way round, version and device type.
pub record IsLabelOf (address : Address) (label : Label) : Type 0 where
  pub maker : AreLetters label.letters (manufacturer_of address)
  pub identification : label.identification ≡ reverse (identification_of address)
  pub rest : drop 6 (bytes_of address) ≡ label.version ∷ label.kind ∷ []

-- ---- the same by computing

abbrev pub is_capital : ℕ → Bool
is_capital letter = nat_le 65 letter && nat_le letter 90

-- M of a maker, where these are three capital letters
unfoldable pub number_of : List ℕ → Option ℕ
number_of (first ∷ second ∷ third ∷ []) =
    if is_capital first && is_capital second && is_capital third
    then Some ((first - 64) * 1024 + (second - 64) * 32 + (third - 64))
    else None
number_of letters = None

abbrev pub label_from : List ℕ → Option (List ℕ) → Option Label
label_from (_ ∷ _ ∷ i ∷ j ∷ k ∷ l ∷ version ∷ kind ∷ []) (Some letters) =
    Some (record { letters = letters; identification = l ∷ k ∷ j ∷ i ∷ []; version = version; kind = kind })
label_from bytes letters = None

-- the label of an address, if its maker has three letters
unfoldable pub label_of : Address → Option Label
label_of address = label_from (bytes_of address) (letters_of address)

abbrev pub bytes_from : List ℕ → List ℕ → ℕ → ℕ → List ℕ
bytes_from (low ∷ high ∷ []) (l ∷ k ∷ j ∷ i ∷ []) version kind = low ∷ high ∷ i ∷ j ∷ k ∷ l ∷ version ∷ kind ∷ []
bytes_from maker identification version kind = []

abbrev pub address_from : Label → Option ℕ → Option Address
address_from label (Some number) =
    Some (record { 0 = from_be_bytes w64 (bytes_from (to_le_bytes w16 number) label.identification label.version label.kind) })
address_from label None = None

-- the address of a label, if its maker is three capital letters
unfoldable pub address_of : Label → Option Address
address_of label = address_from label (number_of label.letters)

-- the numbers of the label are bytes
pub record IsFit (label : Label) : Type 0 where
  pub identification : IsBytes label.identification
  pub four : length label.identification ≡ 4
  pub version : label.version < 256
  pub kind : label.kind < 256
