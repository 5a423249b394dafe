-- A meter between two deliveries.
use Rattle.std.specs.Prelude.{ℕ}
use Rattle.meter_address.specs.declared.address.Address.{Address}
use Rattle.meter_address.specs.Commission.{Commissioned}

-- the collector's address, what is commissioned of the meter, and the greatest counter executed, or the commissioned one
pub record Listening : Type 0 where
  pub own : Address
  pub commission : Commissioned
  pub last : ℕ
