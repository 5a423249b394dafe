-- A state under a roster: what an operator adds, removes or gives new keys between two sessions.
use Rattle.std.specs.Prelude.{ℕ, ◌==◌, max, List, map, find, Option, Some, None}
use Rattle.meter_address.specs.declared.address.Address.{Address}
use Rattle.meter_address.specs.declared.commission.Mode.{Mode}
use Rattle.meter_address.specs.declared.commission.Mode.TheVariants.{Five, Seven}
use Rattle.meter_address.specs.Commission.{Commissioned}
use Rattle.roster_file.specs.Roster.{Enrolled}
use Rattle.meter_slots.specs.Journal.{Start, fresh_start, commission_of, greater}
use Rattle.state_file.specs.Whole.{Known}
use Rattle.state_file.specs.Recommissioning.{recommissioned}

-- ---- numbers

-- of two last counters the greater one
abbrev pub greater_of : Option ℕ → Option ℕ → Option ℕ
greater_of None other = other
greater_of (Some n) other = greater n other

-- the first of two numbers, or the other one where there is none
abbrev pub first_of : Option ℕ → Option ℕ → Option ℕ
first_of None other = other
first_of (Some n) other = Some n

-- The last number of a meter that is known in one mode and enrolled in another: in mode 7 the greater one; in mode 5, where numbers come
-- round again, the known one, since a roster's is older. Where the mode changes the numbers of the one mode count nothing of the other.
abbrev pub last_kept : (known enrolled : Mode) → Option ℕ → Option ℕ → Option ℕ
last_kept Five Five known enrolled = first_of known enrolled
last_kept Seven Seven known enrolled = greater_of known enrolled
last_kept Five Seven known enrolled = enrolled
last_kept Seven Five known enrolled = enrolled

-- ---- a meter

-- the mode and the keys are the roster's, and no counter falls below that of either
abbrev pub merged_commission : (known enrolled : Commissioned) → Commissioned
merged_commission m c = record c { last = last_kept m.mode c.mode m.last c.last; down = max m.down c.down; ids = max m.ids c.ids }

-- the meter with this address, where one is known
abbrev pub known_among : Address → List Start → Option Start
known_among a starts = find (λ m. m.address.0 == a.0) starts

-- a meter that isn't known is just commissioned; of one that is known all that its session left stays
abbrev pub with_known : Option Start → Commissioned → Start
with_known None c = fresh_start c
with_known (Some m) c = recommissioned m (merged_commission (commission_of m) c)

abbrev pub merged_meter : List Start → Commissioned → Start
merged_meter starts c = with_known (known_among c.address starts) c

-- ---- the whole: the collector's own address and just the meters of the roster, in its order

abbrev pub merged : Known → Enrolled → Known
merged s r = record { own = r.own; starts = map (merged_meter s.starts) r.meters }
