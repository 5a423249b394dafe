-- The rows of all meters, and what becomes of them by an edit.
use Rattle.std.specs.Prelude.{◌≡◌, ℕ, ◌≤◌, ◌==◌, Bool, List, [], ◌∷◌, ◌++◌, map, length, slice_set, remove}
use Rattle.std.specs.Option.{unwrap_or}
use Rattle.std.specs.Map.{lookup, remove_entry}
use Rattle.indexmap.specs.IndexMap.{insert_entry}
use Rattle.meter_address.specs.declared.address.Address.{Address}
use Rattle.usage_totals.specs.declared.key.UsageKey.{UsageKey}
use Rattle.usage_totals.specs.declared.sums.Sum.{Sum}
use Rattle.usage_totals.specs.Amounts.{Row, row_of}
use Rattle.usage_totals.specs.Sums.{sum_at, total_at}

-- the addresses that have rows, in the order of their first ones, each with its rows
abbrev pub Table : Type 0 → Type 0
Table X = List (Address × List X)

abbrev pub same : Address → Address → Bool
same a b = a.0 == b.0

module _ {X : Type 0} where
  -- the rows of an address
  abbrev pub rows_at : Address → Table X → List X
  rows_at address table = unwrap_or (lookup (same address) table) []

  -- An address has these rows now: without any it has no place in the table.
  abbrev pub with_rows : Table X → Address → List X → Table X
  with_rows table address [] = remove_entry (same address) table
  with_rows table address (row ∷ rows) = insert_entry same table address (row ∷ rows)

  -- a row is added as the last one
  abbrev pub added : Table X → Address → X → Table X
  added table address row = with_rows table address (rows_at address table ++ row ∷ [])

  -- the row at a place is replaced
  abbrev pub replaced : Table X → Address → ℕ → X → Table X
  replaced table address place row = with_rows table address (slice_set (rows_at address table) place row)

  -- the row at a place is removed, and those behind it move up
  abbrev pub removed : Table X → Address → ℕ → Table X
  removed table address place = with_rows table address (remove (rows_at address table) place)

-- the amounts that are kept of payloads
abbrev pub kept : Table (List ℕ) → Table Row
kept table = map (λ meter. (meter.0, map row_of meter.1)) table

-- The rows are those of payloads, and the sums are their totals.
pub record IsKept (table : Table Row) (sums : List (UsageKey × Sum)) : Type 0 where
  pub payloads : Table (List ℕ)
  pub rows : table ≡ kept payloads
  pub few : length table ≤ 4096
  pub totals : (key : UsageKey) → sum_at key sums ≡ total_at key table
