-- The order in which slots stand.
use Rattle.std.specs.Prelude.{◌≡◌, List, map}
use Rattle.meter_address.specs.Address.{AreApart}
use Rattle.meter_address.specs.declared.address.Address.{Address}
use Rattle.meter_slots.specs.Journal.{SlotView}
use Rattle.meter_slots.specs.World.{address_of_slot}

-- the directory has the addresses of the slots, which differ
pub record IsOrdered (slots : List SlotView) (directory : List Address) : Type 0 where
  pub places : directory ≡ map address_of_slot slots
  pub apart : AreApart directory
