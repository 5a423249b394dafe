-- Amounts are small.
use Rattle.std.proofs.Common.{◌≡◌, ℕ, ◌^◌, Bool, true, List, [], ◌∷◌, fold, Option, Some, None, IfSome, is_some, ℤ, pos, neg_ℤ, ◌==◌, arith, int_lt, Ordering}
use Rattle.std.proofs.lemmas.Bool.{and_parts, cond_both}
use Rattle.std.specs.List.{filter_map, cons_option}
use Rattle.std.specs.Option.{option_map, option_or}
use Rattle.std.specs.Map.{lookup, remove_entry, set_value}
use Rattle.std.specs.BTreeMap.{insert_entry}
use Rattle.std.proofs.lemmas.Int.{ints}
use Rattle.dif_vif.specs.Listing.{spans_of}
use Rattle.dif_vif.specs.declared.span.RecordSpan.{RecordSpan}
use Rattle.record_values.specs.declared.values.Value.{Value}
use Rattle.record_values.specs.declared.values.Value.TheVariants as values
use Rattle.record_values.specs.Values.{value}
use Rattle.usage_totals.specs.declared.key.UsageKey.{UsageKey}
use Rattle.usage_totals.specs.Keys.{key_cmp}
use Rattle.usage_totals.specs.Amounts.{Row, amount_at, is_small, key_of, whole, given, noted, IsWithin, AreSmall, row_of}
use Rattle.usage_totals.specs.Usage.{last}
use Rattle.usage_totals.proofs.Entries.{each_removed, each_set, each_inserted}

within : (v : ℤ) → is_small v ≡ true → IsWithin (2 ^ 80) v
within v test =
    let both = and_parts (int_lt (neg_ℤ (pos (2 ^ 80))) v) (int_lt v (pos (2 ^ 80))) test in
    record { low = grind (arith, ints, both.0); high = grind (arith, ints, both.1) }

pub whole_small : (v : Value) → IfSome (whole v) (IsWithin (2 ^ 80))
whole_small (values.Whole amount) =
    cond_both (is_small amount) (Some amount) None (λ o. IfSome o (IsWithin (2 ^ 80))) (within amount) (λ _. tt)
whole_small _ = tt

-- the amount of an entry that there may be is small
abbrev pub IsSmallEntry : Option (UsageKey × ℤ) → Type 0
IsSmallEntry found = IfSome found (λ entry. IsWithin (2 ^ 80) entry.1)

map_small : (key : UsageKey) (o : Option ℤ) → IfSome o (IsWithin (2 ^ 80)) → IsSmallEntry (option_map (λ amount. (key, amount)) o)
map_small key None small = tt
map_small key (Some v) small = small

pub given_small : (payload : List ℕ) (span : RecordSpan) → IsSmallEntry (given payload span)
unfolding given
given_small payload span =
    cond_both (span.function == 0) _ None IsSmallEntry
    (λ _. map_small (key_of payload span) (whole (value payload span)) (whole_small (value payload span))) (λ _. tt)

-- ---- amounts by any keys

pub either_small : (a b : Option ℤ) → IfSome a (IsWithin (2 ^ 80)) → IfSome b (IsWithin (2 ^ 80))
    → IfSome (option_or a b) (IsWithin (2 ^ 80))
either_small None b x y = y
either_small (Some v) b x y = x

module _ {K : Type 0} where
  -- what is found is small
  pub lookup_small : (test : K → Bool) (es : List (K × ℤ)) → AreSmall es → IfSome (lookup test es) (IsWithin (2 ^ 80))
  lookup_small test [] small = tt
  lookup_small test (e ∷ es) small =
      cond_both (test e.0) (Some e.1) (lookup test es) (λ o. IfSome o (IsWithin (2 ^ 80))) (λ _. small.0)
      (λ _. lookup_small test es small.1)

  pub remove_small : (test : K → Bool) (es : List (K × ℤ)) → AreSmall es → AreSmall (remove_entry test es)
  remove_small = each_removed (λ e. IsWithin (2 ^ 80) e.1)

  pub insert_small : (cmp : K → K → Ordering) (es : List (K × ℤ)) (key : K) (v : ℤ) → IsWithin (2 ^ 80) v → AreSmall es
      → AreSmall (insert_entry cmp es key v)
  insert_small cmp es key v small = each_inserted (λ e. IsWithin (2 ^ 80) e.1) v (λ _ _. small) cmp es key small

  pub set_small : (test : K → Bool) (es : List (K × ℤ)) (v : ℤ) → IsWithin (2 ^ 80) v → AreSmall es → AreSmall (set_value test es v)
  set_small test es v small = each_set (λ e. IsWithin (2 ^ 80) e.1) v (λ _ _. small) test es

  -- the first and the last one are
  pub last_small : (es : List (K × ℤ)) → AreSmall es → IfSome (last (λ e. Some e.1) es) (IsWithin (2 ^ 80))
  last_small [] small = tt
  last_small (e ∷ es) small = either_small (last (λ e. Some e.1) es) (Some e.1) (last_small es small.1) small.0

-- ---- the amounts of a payload

noted_small : (row : Row) (entry : UsageKey × ℤ) → IsWithin (2 ^ 80) entry.1 → AreSmall row → AreSmall (noted row entry)
noted_small row entry small others =
    cond_both (is_some (amount_at entry.0 row)) row _ AreSmall (λ _. others)
    (λ _. insert_small key_cmp row entry.0 entry.1 small others)

fold_small : (row : Row) (found : Option (UsageKey × ℤ)) (rest : Row) → ((r : Row) → AreSmall r → AreSmall (fold noted r rest))
    → IsSmallEntry found → AreSmall row → AreSmall (fold noted row (cons_option found rest))
fold_small row None rest further small others = further row others
fold_small row (Some entry) rest further small others = further (noted row entry) (noted_small row entry small others)

all_small : (payload : List ℕ) (spans : List RecordSpan) (row : Row) → AreSmall row
    → AreSmall (fold noted row (filter_map (given payload) spans))
all_small payload [] row small = small
all_small payload (span ∷ spans) row small =
    fold_small row (given payload span) (filter_map (given payload) spans) (λ r s. all_small payload spans r s) (given_small payload span)
    small

-- the amounts of a payload are small
pub row_small : (payload : List ℕ) → AreSmall (row_of payload)
unfolding row_of
row_small payload = all_small payload (spans_of payload) [] tt
