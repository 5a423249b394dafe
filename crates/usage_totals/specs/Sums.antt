-- The sums of all meters' usages.
use Rattle.std.specs.Prelude.{map, filter, fold, nat_lt, ℕ, Bool, is_some, ◌+◌, ◌^◌, ◌<◌, List, [], ◌∷◌, Option, Some, None, ℤ, pos, ◌+ℤ◌}
use Rattle.std.specs.List.{list_any, flat_map, filter_map}
use Rattle.std.specs.Option.{unwrap_or}
use Rattle.std.specs.Map.{lookup, keys_of}
use Rattle.std.specs.BTreeMap.{is_at}
use Rattle.meter_address.specs.declared.address.Address.{Address}
use Rattle.usage_totals.specs.declared.key.UsageKey.{UsageKey}
use Rattle.usage_totals.specs.declared.sums.Sum.{Sum}
use Rattle.usage_totals.specs.Keys.{key_cmp}
use Rattle.usage_totals.specs.Amounts.{Row, IsWithin, all_amounts, noted}
use Rattle.usage_totals.specs.Usage.{usage, usage_at}

-- a sum as the pair of its numbers
abbrev pub as_pair : Sum → ℕ × ℤ
as_pair sum = (sum.meters, sum.amount)

-- nothing is used
abbrev pub no_sum : Sum
no_sum = record { meters = 0; amount = pos 0 }

-- with one more meter, if it has a usage
abbrev pub with_usage : Option ℤ → Sum → Sum
with_usage None sum = sum
with_usage (Some used) sum = record { meters = sum.meters + 1; amount = sum.amount +ℤ used }

-- the meters that have a usage, and the sum of their usages
abbrev pub total_by : {R : Type 0} → (R → Option ℤ) → List (Address × R) → Sum
total_by usage_in [] = no_sum
total_by usage_in (meter ∷ meters) = with_usage (usage_in meter.1) (total_by usage_in meters)

-- the total of a key over a table of addresses, each with its payloads
abbrev pub total : List (Address × List (List ℕ)) → UsageKey → Sum
total table key = total_by (λ payloads. usage payloads key) table

-- the same over the rows that are kept
abbrev pub total_at : UsageKey → List (Address × List Row) → Sum
total_at key table = total_by (usage_at key) table

-- the sum that is kept for a key
abbrev pub find_sum : UsageKey → List (UsageKey × Sum) → Option Sum
find_sum key sums = lookup (is_at (key_cmp key)) sums

-- whether one is
abbrev pub has_sum : UsageKey → List (UsageKey × Sum) → Bool
has_sum key sums = is_some (find_sum key sums)

-- the sum for a key: nothing where none is kept
abbrev pub sum_at : UsageKey → List (UsageKey × Sum) → Sum
sum_at key sums = unwrap_or (find_sum key sums) no_sum

-- The number of meters and the amount are far from the ends of their types.
pub record IsFitting (limit : ℕ) (sum : Sum) : Type 0 where
  pub meters : sum.meters < 2 ^ 31
  pub amount : IsWithin limit sum.amount

-- the keys of which some meter has a usage, in the order of the sums
abbrev pub used_keys : List (UsageKey × Sum) → List UsageKey
used_keys sums = map (λ entry. entry.0) (filter (λ entry. nat_lt 0 entry.1.meters) sums)

-- whether a key is one of them
abbrev pub is_among : UsageKey → List UsageKey → Bool
is_among key keys = list_any (is_at (key_cmp key)) keys

-- the usages of a key that meters have, in the order of the table
abbrev pub usages_in : List (Address × List (List ℕ)) → UsageKey → List ℤ
usages_in table key = filter_map (λ meter. usage meter.1 key) table

-- what numbers come to
abbrev pub sum_of : List ℤ → ℤ
sum_of [] = pos 0
sum_of (number ∷ numbers) = sum_of numbers +ℤ number

-- whether some meter has a usage of a key
abbrev pub is_used : List (Address × List (List ℕ)) → UsageKey → Bool
is_used table key = list_any (λ meter. is_some (usage meter.1 key)) table

-- the amounts that all rows of all meters give
abbrev pub amounts_in : List (Address × List (List ℕ)) → Row
amounts_in table = flat_map (λ meter. flat_map all_amounts meter.1) table

-- the keys of all these amounts in order, each once: those of which some meter has a usage
abbrev pub keys_in : List (Address × List (List ℕ)) → List UsageKey
keys_in table = keys_of (fold noted [] (amounts_in table))
