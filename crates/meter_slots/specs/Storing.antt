-- Where bytes are kept: words of private contracts.
use Rattle.std.specs.Prelude.{ℕ, List}
use Rattle.meter_slots.specs.declared.reading.Store.{Store}
use Rattle.meter_slots.specs.declared.reading.Store.TheVariants.{Within, Apart}

abbrev pub stored_bytes : Store → List ℕ
stored_bytes (Within few) = few
stored_bytes (Apart bytes) = bytes.items
