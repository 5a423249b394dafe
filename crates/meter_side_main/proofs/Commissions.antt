-- A roster's meters, as a state has them.
use Rattle.std.proofs.Common.{◌≡◌, ◌==◌, Bool, true, false, cond, List, [], ◌∷◌, Option, Some, option_map, map, find, refl}
use Rattle.meter_address.specs.declared.address.Address.{Address}
use Rattle.meter_address.specs.Commission.{Commissioned}
use Rattle.meter_slots.specs.Journal.{Start, commission_of, fresh_start}
use Rattle.meter_side_main.specs.Laws.{RostersCommission}
use Rattle.meter_side_main.specs.Run.{meter_with}

-- one meter more in front
in_front : (test : Bool) (m : Commissioned) (starts : Option Start) (found : Option Commissioned) → option_map commission_of starts ≡ found
    → option_map commission_of (cond test (Some (fresh_start m)) starts) ≡ cond test (Some m) found
in_front true m starts found is = refl
in_front false m starts found is = is

commissioned : (a : Address) (meters : List Commissioned) → meter_with a (map fresh_start meters) ≡ find (λ m. m.address.0 == a.0) meters
commissioned a [] = refl
commissioned a (m ∷ meters) =
    in_front (m.address.0 == a.0) m (find (λ c. c.address.0 == a.0) (map fresh_start meters)) (find (λ m. m.address.0 == a.0) meters)
    (commissioned a meters)

pub rosters_commission : RostersCommission
rosters_commission r a = commissioned a r.meters
