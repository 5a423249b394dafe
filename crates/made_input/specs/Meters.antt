-- The meters of a made session.
use Rattle.std.specs.Prelude.{ℕ, ◌+◌, ◌*◌, ◌/◌, ◌%◌, List, [], ◌∷◌, ◌++◌, map, None}
use Rattle.std.specs.List.{range_with_len}
use Rattle.std.specs.Int.{w64, from_be_bytes}
use Rattle.meter_address.specs.declared.address.Address.{Address}
use Rattle.meter_address.specs.declared.commission.Mode.TheVariants.{Seven}
use Rattle.meter_address.specs.Commission.{Commissioned}
use Rattle.roster_file.specs.Roster.{Enrolled}
use Rattle.made_input.specs.Draws.{key_behind}

-- two decimal digits in a byte: the lower one in its low four bits
abbrev pub bcd_byte : ℕ → ℕ
bcd_byte n = n / 10 % 10 * 16 + n % 10

-- the last eight decimal digits of a number, two in a byte, the low byte first
unfoldable pub bcd : ℕ → List ℕ
bcd n = bcd_byte n ∷ bcd_byte (n / 100) ∷ bcd_byte (n / 10000) ∷ bcd_byte (n / 1000000) ∷ []

abbrev pub own_address : Address
own_address = record { 0 = 0x9315010000000131 }

-- the address of the meter at a place: M is ELS, the identification counts the meters from 1, version 1, a water meter
abbrev pub address_at : ℕ → Address
address_at place = record { 0 = from_be_bytes w64 (0x93 ∷ 0x15 ∷ bcd (place + 1) ++ 0x01 ∷ 0x07 ∷ []) }

-- the meter at a place, whose key is four draws; the keys are drawn in the order of the meters
abbrev pub meter_at : ℕ → ℕ → Commissioned
meter_at number place = record {
  address = address_at place;
  mode = Seven;
  key = key_behind number (4 * place);
  other = None;
  last = None;
  down = 0;
  ids = 0;
}

-- so many meters, of the session with this number
abbrev pub meters_of : ℕ → ℕ → List Commissioned
meters_of count number = map (meter_at number) (range_with_len 0 count)

abbrev pub roster_of : ℕ → ℕ → Enrolled
roster_of count number = record { own = own_address; meters = meters_of count number }
