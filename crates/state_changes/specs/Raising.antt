-- A state whose downlink counters are raised: what an operator does after an older state was restored.
use Rattle.std.specs.Prelude.{ℕ, ◌+◌, ◌-◌, ◌^◌, nat_lt, Bool, List, map, find, Option, option_map}
use Rattle.meter_address.specs.declared.address.Address.{Address}
use Rattle.meter_slots.specs.Journal.{Start}
use Rattle.meter_slots.specs.Resuming.{reserved}
use Rattle.state_file.specs.Whole.{Known}

-- so many counters of downlinks of each meter are passed over, and all else is as it was
abbrev pub raised : ℕ → Known → Known
raised n s = record { own = s.own; starts = map (reserved n) s.starts }

-- whether a counter would pass 2^32 - 1
abbrev pub is_spent : ℕ → Start → Bool
is_spent n c = nat_lt (2 ^ 32 - 1) (c.orders.down + n)

-- the first meter whose counter would
abbrev pub first_spent : ℕ → List Start → Option Address
first_spent n starts = option_map (λ c. c.address) (find (is_spent n) starts)
