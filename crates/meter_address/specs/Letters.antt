-- The three letters of a manufacturer (EN 13757-3, the manufacturer's identification).
use Rattle.std.specs.Prelude.{ℕ, ◌≡◌, ◌+◌, ◌-◌, ◌*◌, ◌/◌, ◌%◌, ◌≤◌, ◌&&◌, nat_le, Bool, List, [], ◌∷◌, slice_index, Option, Some, None, if◌then◌else◌}
use Rattle.meter_address.specs.declared.address.Address.{Address}
use Rattle.meter_address.specs.Address.{bytes_of}

-- M of an address, a number sent low byte first
abbrev pub manufacturer_of : Address → ℕ
manufacturer_of a = slice_index (bytes_of a) 0 + 256 * slice_index (bytes_of a) 1

-- a letter from A to Z
abbrev pub IsCapital : ℕ → Type 0
IsCapital c = (65 ≤ c) × (c ≤ 90)

-- three capital letters, five bits for each in M, the first letter highest
pub record AreLetters (letters : List ℕ) (m : ℕ) : Type 0 where
  pub first : ℕ
  pub second : ℕ
  pub third : ℕ
  pub capitals : IsCapital first × IsCapital second × IsCapital third
  pub text : letters ≡ first ∷ second ∷ third ∷ []
  pub number : m ≡ (first - 64) * 1024 + (second - 64) * 32 + (third - 64)

-- a group of five bits that stands for a letter
abbrev pub is_letter : ℕ → Bool
is_letter group = nat_le 1 group && nat_le group 26

abbrev pub letters_of_number : ℕ → Option (List ℕ)
letters_of_number m =
    if is_letter (m / 1024) && is_letter (m / 32 % 32) && is_letter (m % 32)
    then Some ((m / 1024 + 64) ∷ (m / 32 % 32 + 64) ∷ (m % 32 + 64) ∷ [])
    else None

-- the three letters of an address, if M stands for three
unfoldable pub letters_of : Address → Option (List ℕ)
letters_of a = letters_of_number (manufacturer_of a)
