-- Genuine downlinks, and which of them a meter executes.
use Rattle.std.specs.Prelude.{ℕ, ◌≡◌, ◌^◌, ◌<◌, ◌⊎◌, ◌↔◌, List, [], ◌∷◌, Ok}
use Rattle.aes_block.specs.Block.{IsBlock}
use Rattle.frame_formats.specs.Crc.{IsBytes}
use Rattle.meter_address.specs.declared.address.Address.{Address}
use Rattle.meter_address.specs.Commission.{Commissioned}
use Rattle.downlink_maker.specs.Downlink.{plain_content, downlink}
use Rattle.downlink_maker.specs.Parts.{IsPayload}
use Rattle.meter_side_main.specs.declared.delivery.Executed.{Executed}
use Rattle.meter_side_main.specs.Reading.{told}

-- what is delivered is, byte for byte, the downlink of a payload under this counter, and this content is the payload and its fillers
pub record IsGenuine (own : Address) (c : Commissioned) (delivery : List ℕ) (e : Executed) : Type 0 where
  pub payload : List ℕ
  pub is_payload : IsPayload payload
  pub counter : e.down < 2 ^ 32
  pub frame : delivery ≡ downlink own c e.down payload
  pub content : plain_content payload ≡ 0x2F ∷ 0x2F ∷ e.content

-- above each of some counters
abbrev pub IsAboveAll : ℕ → List ℕ → Type 0
IsAboveAll n [] = Unit {0}
IsAboveAll n (k ∷ ks) = (k < n) × IsAboveAll n ks

-- the counters of what is executed strictly rise, the first one from above this
abbrev pub RiseAbove : ℕ → List Executed → Type 0
RiseAbove n [] = Unit {0}
RiseAbove n (e ∷ es) = (n < e.down) × RiseAbove e.down es

-- the executed list of some deliveries, where these counters came before: the commissioned one, and those of earlier genuine deliveries.
-- A delivery that is genuine with a counter above each of them is executed; no other one is
abbrev pub AreExecuted : Address → Commissioned → List ℕ → List (List ℕ) → List Executed → Type 0
AreExecuted own c counters [] done = done ≡ []
AreExecuted own c counters (d ∷ ds) done =
    (((e : Executed) → ¬ IsGenuine own c d e) × AreExecuted own c counters ds done)
    ⊎ (((e : Executed) × IsGenuine own c d e × IsAboveAll e.down counters
    × ((rest : List Executed) × (done ≡ e ∷ rest) × AreExecuted own c (e.down ∷ counters) ds rest))
    ⊎ ((e : Executed) × IsGenuine own c d e × (¬ IsAboveAll e.down counters) × AreExecuted own c (e.down ∷ counters) ds done))

-- a content with its check bytes fills its blocks: it is itself a payload, and what is delivered is its downlink
pub record IsOfItsContent (own : Address) (c : Commissioned) (delivery : List ℕ) (e : Executed) : Type 0 where
  pub is_payload : IsPayload e.content
  pub frame : delivery ≡ downlink own c e.down e.content

-- each genuine downlink is that of its own content
abbrev pub ContentsArePayloads : Type 0
ContentsArePayloads = (own : Address) (c : Commissioned) (bytes : List ℕ) (e : Executed) → IsBlock c.key → IsBytes bytes
    → IsGenuine own c bytes e → IsOfItsContent own c bytes e

-- what passes all but the comparison of its counter is genuine, and no other is
abbrev pub GenuineAreTold : Type 0
GenuineAreTold = (own : Address) (c : Commissioned) (bytes : List ℕ) (e : Executed) → IsBlock c.key → IsBytes bytes
    → (told own c bytes ≡ Ok e) ↔ IsGenuine own c bytes e
