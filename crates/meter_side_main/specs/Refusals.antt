-- Why a meter executes nothing: the first cause, in the order of `SideReason`.
use Rattle.std.specs.Prelude.{ℕ, ◌≡◌, ◌≢◌, ◌+◌, ◌*◌, ◌<◌, ◌≤◌, ◌⊎◌, ◌↔◌, List, [], ◌∷◌, length, take, slice_index}
use Rattle.aes_block.specs.Block.{IsBlock}
use Rattle.frame_formats.specs.Crc.{IsBytes}
use Rattle.frame_formats.specs.Frames.{IsTelegram, FrameA}
use Rattle.frame_formats.specs.Faults.{FaultA}
use Rattle.meter_address.specs.declared.address.Address.{Address}
use Rattle.meter_address.specs.Commission.{Commissioned}
use Rattle.meter_side_main.specs.declared.delivery.Executed.{Executed}
use Rattle.meter_side_main.specs.declared.reason.SideReason.{SideReason}
use Rattle.meter_side_main.specs.declared.reason.SideReason.TheVariants.{Frame, Layout, BadMac, CheckBytes, Stale}
use Rattle.meter_side_main.specs.declared.reason.Did.TheVariants.{Refused}
use Rattle.downlink_maker.specs.Parts.{layers_before}
use Rattle.meter_side_main.specs.Reading.{mac_in, parts_with, mac_due, decrypted, did_after}
use Rattle.meter_side_main.specs.Genuine.{IsGenuine}

-- L is that of so many blocks, of which there are one to six
pub record HasBlocks (t : List ℕ) (n : ℕ) : Type 0 where
  pub least : 1 ≤ n
  pub most : n ≤ 6
  pub counted : slice_index t 0 ≡ 40 + 16 * n

-- the first place at which another byte stands than is wanted
pub record IsFirstOther (want have : List ℕ) (place : ℕ) : Type 0 where
  pub within : place < length want
  pub before : take place want ≡ take place have
  pub other : slice_index want place ≢ slice_index have place

-- a telegram isn't laid out as a downlink to this meter: L isn't that of one to six blocks, or this place is the first before
-- the content at which another byte stands than in a downlink to the meter with L's blocks and the telegram's own counter and MAC
abbrev pub IsMislaid : Address → Address → List ℕ → ℕ → Type 0
IsMislaid own meter t place =
    ((place ≡ 0) × ((n : ℕ) → ¬ HasBlocks t n))
    ⊎ ((n : ℕ) × HasBlocks t n × IsFirstOther (layers_before own meter (parts_with t n)) t place)

-- the link layer and the authentication layer up to the counter, or the transport header
abbrev pub IsJudgedPlace : ℕ → Type 0
IsJudgedPlace place = (place ≤ 14) ⊎ ((27 ≤ place) × (place ≤ 40))

-- a layout is faulty at one of these places alone, and at that of L exactly where it isn't that of one to six blocks
abbrev pub PlacesAreJudged : Type 0
PlacesAreJudged = (own meter : Address) (t : List ℕ) (place : ℕ) → IsTelegram t → IsBytes t → IsMislaid own meter t place
    → IsJudgedPlace place × ((place ≡ 0) ↔ ((n : ℕ) → ¬ HasBlocks t n))

-- a telegram is laid out as a downlink to this meter
abbrev pub IsLaidOut : Address → Address → List ℕ → Type 0
IsLaidOut own meter t = (n : ℕ) × HasBlocks t n × (take 41 t ≡ layers_before own meter (parts_with t n))

-- why a meter executes nothing of a delivery, after this last counter
abbrev pub IsRefusal : Address → Commissioned → ℕ → List ℕ → SideReason → Type 0
IsRefusal own c last bytes (Frame fault) = FaultA bytes fault
IsRefusal own c last bytes (Layout place) = (t : List ℕ) × FrameA bytes t × IsMislaid own c.address t place
IsRefusal own c last bytes BadMac =
    (t : List ℕ) × FrameA bytes t × IsLaidOut own c.address t × (mac_due c t ≢ mac_in t)
IsRefusal own c last bytes (CheckBytes two) =
    (t : List ℕ) × FrameA bytes t × IsLaidOut own c.address t × (mac_due c t ≡ mac_in t)
    × (two ≡ slice_index (decrypted c t) 0 ∷ slice_index (decrypted c t) 1 ∷ []) × (two ≢ 0x2F ∷ 0x2F ∷ [])
IsRefusal own c last bytes (Stale got before) = (e : Executed) × IsGenuine own c bytes e × (e.down ≡ got) × (before ≡ last) × (got ≤ last)

-- each refusal comes exactly where its cause is the first
abbrev pub RefusedExactly : Type 0
RefusedExactly = (own : Address) (c : Commissioned) (last : ℕ) (bytes : List ℕ) (r : SideReason) → IsBlock c.key → IsBytes bytes
    → (did_after own c last bytes ≡ Refused r) ↔ IsRefusal own c last bytes r
