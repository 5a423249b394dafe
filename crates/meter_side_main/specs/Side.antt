-- What contracts see of a meter's side.
use Rattle.std.specs.Prelude.{ℕ, ◌≡◌, max, List, [], ◌∷◌}
use Rattle.frame_formats.specs.Crc.{IsBytes}
use Rattle.meter_address.specs.declared.address.Address.{Address}
use Rattle.meter_address.specs.Commission.{Commissioned}
use Rattle.meter_side_main.specs.declared.delivery.Executed.{Executed}
use Rattle.meter_side_main.specs.Genuine.{AreExecuted}

-- the collector's address, what is commissioned of the meter, the last counter, and what was executed, the first command first
pub record Side : Type 0 where
  pub own : Address
  pub commission : Commissioned
  pub last : ℕ
  pub executed : List Executed

-- the greatest of a counter and those of what is executed
abbrev pub greatest : ℕ → List Executed → ℕ
greatest n [] = n
greatest n (e ∷ es) = greatest (max n e.down) es

abbrev pub AllBytes : List (List ℕ) → Type 0
AllBytes [] = Unit {0}
AllBytes (d ∷ ds) = IsBytes d × AllBytes ds

-- a meter to which these were delivered, the first one first: it has executed those of them that are genuine with a counter above the
-- commissioned one and those of all earlier genuine ones, and no other
pub record StandsFor (deliveries : List (List ℕ)) (s : Side) : Type 0 where
  pub executed_are : AreExecuted s.own s.commission (s.commission.down ∷ []) deliveries s.executed
  pub last_is : s.last ≡ greatest s.commission.down s.executed
  pub bytes : AllBytes deliveries
