-- What is commissioned of a meter.
use Rattle.std.specs.Prelude.{ℕ, ◌≡◌, ◌==◌, ◌<◌, ◌≤◌, ◌-◌, ◌^◌, List, length, Option, None, if◌then◌else◌}
use Rattle.std.specs.Option.{ForSome}
use Rattle.std.specs.Result.{result_ok}
use Rattle.hex.specs.Hex.{decode_of, IsBytes}
use Rattle.meter_address.specs.declared.address.Address.{Address}
use Rattle.meter_address.specs.declared.commission.Mode.{Mode}
use Rattle.meter_address.specs.declared.commission.Mode.TheVariants.{Five, Seven}

-- a meter's address, how its messages are secured, its key of sixteen bytes and perhaps a second one, the last stored counter or
-- access number, the last counter of a downlink, and the last id of a command
pub record Commissioned : Type 0 where
  pub address : Address
  pub mode : Mode
  pub key : List ℕ
  pub other : Option (List ℕ)
  pub last : Option ℕ
  pub down : ℕ
  pub ids : ℕ

-- the key that a text spells: 32 hexadecimal digits of either case
abbrev pub key_of : List ℕ → Option (List ℕ)
key_of text = if length text == 32 then result_ok (decode_of text) else None

-- sixteen bytes
pub record IsKey (key : List ℕ) : Type 0 where
  pub long : length key ≡ 16
  pub bytes : IsBytes key

-- the greatest number that counts a meter's messages: an access number of one byte in mode 5, a counter of four bytes in mode 7
abbrev pub most_last : Mode → ℕ
most_last Five = 255
most_last Seven = 2 ^ 32 - 1

-- what a mode allows: the last number is in its range, and mode 5 has one key alone
pub record FitsMode (mode : Mode) (other : Option (List ℕ)) (last : Option ℕ) : Type 0 where
  pub one_key : mode ≡ Five → other ≡ None
  pub in_range : ForSome last (λ n. n ≤ most_last mode)

-- what holds of each commission: its parts have the sizes of their types, and its mode allows them
pub record IsCommission (c : Commissioned) : Type 0 where
  pub address : c.address.0 < 2 ^ 64
  pub key : IsKey c.key
  pub other : ForSome c.other IsKey
  pub fits : FitsMode c.mode c.other c.last
  pub down : c.down < 2 ^ 32
  pub ids : c.ids < 2 ^ 32
