-- The meters of one state.
use Rattle.std.specs.Prelude.{◌≤◌, List, length, map}
use Rattle.meter_address.specs.Address.{AreApart}
use Rattle.meter_slots.specs.Journal.{Start}

-- at most 4,096 meters, whose addresses differ
pub record HasRoom (starts : List Start) : Type 0 where
  pub few : length starts ≤ 4096
  pub apart : AreApart (map (λ c. c.address) starts)
