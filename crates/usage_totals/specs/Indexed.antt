-- The amounts of a meter's rows by key, each with the number of its row.
use Rattle.std.specs.Prelude.{◌≡◌, ℕ, List, [], ◌∷◌, ◌++◌, map, Option, Some, None, ℤ}
use Rattle.std.specs.Option.{option_map, unwrap_or}
use Rattle.std.specs.declared.cmp.Ordering.TheVariants.{Less, Greater}
use Rattle.std.specs.Ordering.{nat_cmp}
use Rattle.std.specs.List.{filter_map, cons_option, AllByRecursion}
use Rattle.std.specs.List.Sorted.{IsStrictlySortedBy}
use Rattle.std.specs.Map.{lookup, remove_entry, set_value}
use Rattle.std.specs.BTreeMap.{is_at, insert_entry}
use Rattle.usage_totals.specs.declared.key.UsageKey.{UsageKey}
use Rattle.usage_totals.specs.declared.rows.NumberedRow.{NumberedRow}
use Rattle.usage_totals.specs.Keys.{key_cmp}
use Rattle.usage_totals.specs.Amounts.{amount_at}
use Rattle.usage_totals.specs.Usage.{usage_by}

-- amounts, each with the number of its row
abbrev pub Numbered : Type 0
Numbered = List (ℕ × ℤ)

-- without the amount at a number
abbrev pub without : ℕ → Numbered → Numbered
without number amounts = remove_entry (is_at (nat_cmp number)) amounts

-- with an amount at a number, if there is one to put
abbrev pub with_put : ℕ → Option ℤ → Numbered → Numbered
with_put number None amounts = amounts
with_put number (Some amount) amounts = insert_entry nat_cmp amounts number amount

-- with another amount in the place of the one at a number, or none
abbrev pub with_set : ℕ → Option ℤ → Numbered → Numbered
with_set number None amounts = without number amounts
with_set number (Some amount) amounts = set_value (is_at (nat_cmp number)) amounts amount

-- with an amount at a number, or none there
abbrev pub with_amount : ℕ → Option ℤ → Numbered → Numbered
with_amount number None amounts = without number amounts
with_amount number (Some amount) amounts = insert_entry nat_cmp amounts number amount

-- the amounts before a number, the one at it if there is one, and those behind it
abbrev pub parted : Numbered → ℕ → Option ℤ → Numbered → Numbered
parted front number amount back = front ++ cons_option (option_map (λ v. (number, v)) amount) back

-- This amount, or none, stands at a number, between those at smaller and those at greater numbers.
pub record StandsAt (number : ℕ) (amount : Option ℤ) (amounts : Numbered) : Type 0 where
  pub front : Numbered
  pub back : Numbered
  pub parts : amounts ≡ parted front number amount back
  pub below : AllByRecursion (λ entry. nat_cmp number entry.0 ≡ Greater) front
  pub above : AllByRecursion (λ entry. nat_cmp number entry.0 ≡ Less) back

-- what was used by amounts in this order
abbrev pub used : Numbered → Option ℤ
used amounts = usage_by (λ entry. Some entry.1) amounts

-- the amounts of a key that rows have
abbrev pub series : UsageKey → List NumberedRow → Numbered
series key rows = filter_map (λ row. option_map (λ v. (row.number, v)) (amount_at key row.amounts)) rows

-- the amounts that an index has for a key
abbrev pub indexed : UsageKey → List (UsageKey × Numbered) → Numbered
indexed key index = unwrap_or (lookup (is_at (key_cmp key)) index) []

-- the numbers of rows
abbrev pub numbers : List NumberedRow → List ℕ
numbers rows = map (λ row. row.number) rows

-- The rows' numbers rise up to the next one, and the index has for each key the amounts of the rows.
pub record IsIndexed (rows : List NumberedRow) (next : ℕ) (index : List (UsageKey × Numbered)) : Type 0 where
  pub rising : IsStrictlySortedBy nat_cmp (numbers rows ++ next ∷ [])
  pub all : (key : UsageKey) → indexed key index ≡ series key rows
