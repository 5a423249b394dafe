-- Words of private contracts: a state's text meter by meter.
use Rattle.std.specs.Prelude.{ℕ, ◌+◌, ◌-◌, ◌^◌, min, List, slice_get, Option, Some, None}
use Rattle.meter_address.specs.Commission.{Commissioned}
use Rattle.meter_slots.specs.Journal.{Start, commission_of}
use Rattle.state_file.specs.Recommissioning.{recommissioned}
use Rattle.state_file.specs.Written.{block_text}
use Rattle.state_changes.specs.Merging.{merged_meter}

-- the meter at a place, where there is one
abbrev pub at_place : List Start → Option ℕ → Option Start
at_place starts None = None
at_place starts (Some place) = slice_get starts place

abbrev pub merged_block : List Start → Commissioned → List ℕ
merged_block starts c = block_text (merged_meter starts c)

-- the counter of downlinks is raised up to the greatest one
abbrev pub capped_commission : ℕ → Commissioned → Commissioned
capped_commission n c = record c { down = min (c.down + n) (2 ^ 32 - 1) }

abbrev pub capped_block : ℕ → Start → List ℕ
capped_block n m = block_text (recommissioned m (capped_commission n (commission_of m)))
