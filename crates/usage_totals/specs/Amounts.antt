-- The amounts that a payload gives, by what they are of.
use Rattle.std.specs.Prelude.{ℕ, ◌^◌, ◌<ℤ◌, Bool, ◌&&◌, List, [], fold, Option, Some, None, ℤ, pos, neg_ℤ, int_lt, ◌==◌, if◌then◌else◌, is_some}
use Rattle.std.specs.Option.{option_map}
use Rattle.std.specs.List.{filter_map, AllByRecursion}
use Rattle.std.specs.Map.{lookup}
use Rattle.std.specs.BTreeMap.{is_at, insert_entry}
use Rattle.dif_vif.specs.declared.span.RecordSpan.{RecordSpan}
use Rattle.dif_vif.specs.Listing.{spans_of}
use Rattle.record_values.specs.declared.values.Value.{Value}
use Rattle.record_values.specs.declared.values.Value.TheVariants as values
use Rattle.record_values.specs.Units.{unit}
use Rattle.record_values.specs.Values.{value}
use Rattle.usage_totals.specs.declared.key.UsageKey.{UsageKey}
use Rattle.usage_totals.specs.Keys.{key_cmp}

-- amounts, each with what it is of
abbrev pub Row : Type 0
Row = List (UsageKey × ℤ)

-- the first amount of this key
abbrev pub amount_at : UsageKey → Row → Option ℤ
amount_at key row = lookup (is_at (key_cmp key)) row

-- Amounts lie strictly between -2^80 and 2^80.
abbrev pub is_small : ℤ → Bool
is_small amount = int_lt (neg_ℤ (pos (2 ^ 80))) amount && int_lt amount (pos (2 ^ 80))

-- what the amount of a record is of
unfoldable pub key_of : List ℕ → RecordSpan → UsageKey
key_of payload span =
    let u = unit payload span in
    record {
      storage = span.storage;
      tariff = span.tariff;
      subunit = span.subunit;
      quantity = u.quantity;
      name = u.name;
      exponent = u.exponent;
    }

-- the amount that a value is: a whole number that is small
abbrev pub whole : Value → Option ℤ
whole (values.Whole amount) = if is_small amount then Some amount else None
whole _ = None

-- the amount that a record gives: that of an instantaneous value
unfoldable pub given : List ℕ → RecordSpan → Option (UsageKey × ℤ)
given payload span =
    if span.function == 0
    then option_map (λ amount. (key_of payload span, amount)) (whole (value payload span))
    else None

-- the amounts that the records of a payload give, in their order
abbrev pub all_amounts : List ℕ → Row
all_amounts payload = filter_map (given payload) (spans_of payload)

-- the amount of a payload: that of the first record that gives one of this key
abbrev pub amount : List ℕ → UsageKey → Option ℤ
amount payload key = amount_at key (all_amounts payload)

-- An amount is noted in its place, unless there is one of its key already.
abbrev pub noted : Row → UsageKey × ℤ → Row
noted row entry = if is_some (amount_at entry.0 row) then row else insert_entry key_cmp row entry.0 entry.1

-- what a record gives is noted
abbrev pub noted_if : Row → Option (UsageKey × ℤ) → Row
noted_if row None = row
noted_if row (Some entry) = noted row entry

-- A number lies strictly between a limit's negative and the limit.
pub record IsWithin (limit : ℕ) (number : ℤ) : Type 0 where
  pub low : neg_ℤ (pos limit) <ℤ number
  pub high : number <ℤ pos limit

-- Amounts are small, whatever they are kept by.
abbrev pub AreSmall : {K : Type 0} → List (K × ℤ) → Type 0
AreSmall entries = AllByRecursion (λ entry. IsWithin (2 ^ 80) entry.1) entries

-- the amounts of a payload in the order of their keys, one of each
unfoldable pub row_of : List ℕ → Row
row_of payload = fold noted [] (all_amounts payload)
