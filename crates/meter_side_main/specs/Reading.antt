-- How a meter reads what is delivered to it: what a downlink tells it, or the first refusal. Below, own is the collector's
-- address, c what is commissioned of the meter, and t a telegram.
use Rattle.std.specs.Prelude.{ℕ, ◌+◌, ◌-◌, ◌/◌, ◌%◌, ◌==◌, ◌&&◌, nat_lt, nat_le, if◌then◌else◌, Bool, List, [], ◌∷◌, ◌++◌, take, drop, slice_index, Result, Ok, Err}
use Rattle.std.specs.Result.{result_map_both}
use Rattle.std.specs.Str.{bytes_eq}
use Rattle.std.specs.Int.{w32, to_le_bytes, from_le_bytes}
use Rattle.meter_address.specs.declared.address.Address.{Address}
use Rattle.meter_address.specs.Commission.{Commissioned}
use Rattle.frame_formats.specs.Decoding.{decoded_a}
use Rattle.cbc_cmac.specs.Cbc.{cbc_decrypted}
use Rattle.cbc_cmac.specs.Mac.{zeros, cmac}
use Rattle.downlink_maker.specs.Downlink.{cipher_key, mac_key}
use Rattle.downlink_maker.specs.Parts.{Parts, layers_before}
use Rattle.lists.specs.Steps.{◌>>=◌}
use Rattle.meter_side_main.specs.declared.delivery.Executed.{Executed}
use Rattle.meter_side_main.specs.declared.reason.SideReason.{SideReason}
use Rattle.meter_side_main.specs.declared.reason.SideReason.TheVariants.{Frame, Layout, BadMac, CheckBytes, Stale}
use Rattle.meter_side_main.specs.declared.reason.Did.{Did}
use Rattle.meter_side_main.specs.declared.reason.Did.TheVariants as did

-- ---- the parts of a telegram that is laid out as a downlink

-- how many blocks its content has, as L says
abbrev pub blocks_in : List ℕ → ℕ
blocks_in t = (slice_index t 0 - 40) / 16

-- the counter, low byte first
abbrev pub counter_in : List ℕ → ℕ
counter_in t = from_le_bytes w32 (take 4 (drop 15 t))

abbrev pub mac_in : List ℕ → List ℕ
mac_in t = take 8 (drop 19 t)

-- the message: its transport header and its encrypted content
abbrev pub message_in : List ℕ → List ℕ
message_in t = drop 27 t

abbrev pub content_in : List ℕ → List ℕ
content_in t = drop 41 t

-- a downlink's parts, as they stand in a telegram, with so many blocks
abbrev pub parts_with : List ℕ → ℕ → Parts
parts_with t blocks = record { blocks = blocks; down = counter_in t; mac = mac_in t; content = content_in t }

-- the same with the blocks that L says
abbrev pub parts_in : List ℕ → Parts
parts_in t = parts_with t (blocks_in t)

-- what stands before the content of a downlink to a meter that has these parts: 41 bytes
abbrev pub layout_of : Address → Address → List ℕ → List ℕ
layout_of own meter t = layers_before own meter (parts_in t)

-- how many bytes two lists have in common in front
unfoldable pub agreeing : List ℕ → List ℕ → ℕ
agreeing (x ∷ xs) (y ∷ ys) = if x == y then 1 + agreeing xs ys else 0
agreeing _ _ = 0

-- the MAC that a telegram should have
unfoldable pub mac_due : Commissioned → List ℕ → List ℕ
mac_due c t = take 8 (cmac (mac_key c (counter_in t)) (0x25 ∷ to_le_bytes w32 (counter_in t) ++ message_in t))

-- the content in plain: two check bytes, and what they tell is whole
unfoldable pub decrypted : Commissioned → List ℕ → List ℕ
decrypted c t = cbc_decrypted (cipher_key c (counter_in t)) zeros (content_in t)

-- ---- the refusals, in their order

-- a check that says nothing but whether it is passed
abbrev pub Passed : Type 0
Passed = Result (Unit {0}) SideReason

-- no frame of format A
abbrev pub framed : List ℕ → Result (List ℕ) SideReason
framed bytes = result_map_both (λ t. t) Frame (decoded_a bytes)

-- L of one to six blocks
abbrev pub is_length : ℕ → Bool
is_length l = nat_le 56 l && nat_le l 136 && (l - 40) % 16 == 0

-- another L
abbrev pub length_passed : List ℕ → Passed
length_passed t = if is_length (slice_index t 0) then Ok tt else Err (Layout 0)

-- another byte before the content than it should be
abbrev pub layout_passed : Address → Address → List ℕ → Passed
layout_passed own meter t = if agreeing (layout_of own meter t) t == 41 then Ok tt else Err (Layout (agreeing (layout_of own meter t) t))

-- another MAC
abbrev pub mac_passed : Commissioned → List ℕ → Passed
mac_passed c t = if bytes_eq (mac_due c t) (mac_in t) then Ok tt else Err BadMac

-- a content in plain that doesn't begin with 2F 2F
abbrev pub check_bytes_passed : List ℕ → Passed
check_bytes_passed plain =
    let two : List ℕ = slice_index plain 0 ∷ slice_index plain 1 ∷ [] in
    if bytes_eq two (0x2F ∷ 0x2F ∷ []) then Ok tt else Err (CheckBytes two)

-- what a delivery tells the meter, or the first refusal but that of its counter
unfoldable pub told : Address → Commissioned → List ℕ → Result Executed SideReason
told own c bytes = do
  t ← framed bytes
  _ ← length_passed t
  _ ← layout_passed own c.address t
  _ ← mac_passed c t
  _ ← check_bytes_passed (decrypted c t)
  Ok (record { down = counter_in t; content = drop 2 (decrypted c t) })

-- what the meter does with what it is told, after this last counter
abbrev pub did_with : ℕ → Result Executed SideReason → Did
did_with last (Err reason) = did.Refused reason
did_with last (Ok e) = if nat_lt last e.down then did.Executed e else did.Refused (Stale e.down last)

-- what the meter does with a delivery, after this last counter
abbrev pub did_after : Address → Commissioned → ℕ → List ℕ → Did
did_after own c last bytes = did_with last (told own c bytes)

-- ---- over all deliveries

abbrev pub executed_in : Did → List Executed
executed_in (did.Executed e) = e ∷ []
executed_in (did.Refused reason) = []

abbrev pub last_after : ℕ → Did → ℕ
last_after last (did.Executed e) = e.down
last_after last (did.Refused reason) = last

-- what is executed of some deliveries after this last counter, in their order
unfoldable pub executed_after : Address → Commissioned → ℕ → List (List ℕ) → List Executed
executed_after own c last [] = []
executed_after own c last (d ∷ ds) =
    executed_in (did_after own c last d) ++ executed_after own c (last_after last (did_after own c last d)) ds
