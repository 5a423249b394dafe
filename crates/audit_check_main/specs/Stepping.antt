-- Words of private contracts: slots in the order of the meters.
use Rattle.std.specs.Prelude.{ℕ, ◌≡◌, List, [], ◌∷◌, map, length, slice_index_or}
use Rattle.meter_address.specs.declared.address.Address.{Address}
use Rattle.meter_slots.specs.Journal.{Start, SlotView}
use Rattle.receivers.specs.declared.told.Told.{Told}
use Rattle.receivers.specs.declared.told.Told.TheVariants as told
use Rattle.receivers.specs.Orders.{IsOrderOf, IsOrderOfStrangers, IsOrderedSlot}
use Rattle.audit_check_main.specs.Hearing.{HeardInput, tells}

-- a list for each meter, which is an order of its own lines; more lists may stand behind them
abbrev pub IsOrderOfEach : List (List Told) → List Start → List (List (ℕ × ℕ)) → Type 0
IsOrderOfEach all [] lists = Unit {0}
IsOrderOfEach all (c ∷ cs) [] = ⊥
IsOrderOfEach all (c ∷ cs) (order ∷ lists) = IsOrderOf c.address all order × IsOrderOfEach all cs lists

-- each meter's slot, with the order of its list
abbrev pub AreOrderedSlots : Address → List (List Told) → List Start → List (List (ℕ × ℕ)) → List SlotView → Type 0
AreOrderedSlots own all [] lists [] = Unit {0}
AreOrderedSlots own all (c ∷ cs) (order ∷ lists) (slot ∷ slots) =
    IsOrderedSlot own all c order slot × AreOrderedSlots own all cs lists slots
AreOrderedSlots own all _ _ _ = ⊥

-- a line tells something for this address
abbrev pub IsEventFor : Address → Told → Type 0
IsEventFor a (told.Event address event) = a.0 ≡ address.0
IsEventFor a told.Unframed = ⊥
IsEventFor a told.Bad = ⊥

-- each list is an order of the lines that it has to have: those of its meter, or in the last one the strangers'
pub record AreOrders (meters : List Start) (heard : List HeardInput) (lists : List (List (ℕ × ℕ))) : Type 0 where
  pub meters_lists : IsOrderOfEach (map tells heard) meters lists
  pub strangers_list : IsOrderOfStrangers meters (map tells heard) (slice_index_or lists (length meters) [])
