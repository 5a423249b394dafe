-- Laws of what a meter executes, whatever is lost, repeated or reordered.
use Rattle.std.specs.Prelude.{ℕ, ◌≡◌, ◌≢◌, ◌==◌, ◌^◌, ◌<◌, ◌↔◌, if◌then◌else◌, Bool, true, false, IsTrue, List, [], ◌∷◌, filter, find}
use Rattle.std.specs.List.{All}
use Rattle.aes_block.specs.Block.{IsBlock}
use Rattle.meter_address.specs.declared.address.Address.{Address}
use Rattle.meter_address.specs.Commission.{Commissioned}
use Rattle.downlink_maker.specs.Downlink.{downlink}
use Rattle.downlink_maker.specs.Parts.{IsPayload}
use Rattle.roster_file.specs.Roster.{Enrolled}
use Rattle.state_file.specs.Whole.{fresh_known}
use Rattle.meter_side_main.specs.declared.delivery.Executed.{Executed}
use Rattle.meter_side_main.specs.Genuine.{AreExecuted, RiseAbove}
use Rattle.meter_side_main.specs.Reading.{executed_after}
use Rattle.meter_side_main.specs.Run.{meter_with}
use Rattle.meter_side_main.specs.Side.{AllBytes}

-- what is executed of some deliveries, computed, is what should be, and nothing else is
abbrev pub ExecutedExactly : Type 0
ExecutedExactly = (own : Address) (c : Commissioned) (deliveries : List (List ℕ)) (done : List Executed) → IsBlock c.key
    → AllBytes deliveries → AreExecuted own c (c.down ∷ []) deliveries done ↔ (done ≡ executed_after own c c.down deliveries)

-- whatever is delivered, the counters executed strictly rise from above the commissioned one
abbrev pub ExecutedRise : Type 0
ExecutedRise = (own : Address) (c : Commissioned) (deliveries : List (List ℕ))
    → RiseAbove c.down (executed_after own c c.down deliveries)

-- the deliveries that don't pass a test
abbrev pub left_without : (List ℕ → Bool) → List (List ℕ) → List (List ℕ)
left_without test deliveries = filter (λ d. if test d then false else true) deliveries

-- a delivery is the downlink of a payload to another meter
pub record IsForOther (own : Address) (c : Commissioned) (delivery : List ℕ) : Type 0 where
  pub other : Commissioned
  pub down : ℕ
  pub payload : List ℕ
  pub key : IsBlock other.key
  pub counter : down < 2 ^ 32
  pub is_payload : IsPayload payload
  pub frame : delivery ≡ downlink own other down payload
  pub differs : other.address ≢ c.address
  pub number : c.address.0 < 2 ^ 64
  pub other_number : other.address.0 < 2 ^ 64

-- where those that pass this test are downlinks to other meters, as much is executed as without them
abbrev pub OthersChangeNothing : Type 0
OthersChangeNothing = (own : Address) (c : Commissioned) (other : List ℕ → Bool) (deliveries : List (List ℕ)) → IsBlock c.key
    → AllBytes deliveries → All (λ d. IsTrue (other d) → IsForOther own c d) deliveries
    → executed_after own c c.down deliveries ≡ executed_after own c c.down (left_without other deliveries)

-- where a run begins from a roster, which is a state of this, the meter is as the roster commissions it
abbrev pub RostersCommission : Type 0
RostersCommission = (r : Enrolled) (a : Address) → meter_with a (fresh_known r).starts ≡ find (λ m. m.address.0 == a.0) r.meters
