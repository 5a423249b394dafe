-- The keys of all amounts of a table.
use Rattle.std.proofs.Common.{◌≡◌, ℕ, ◌+◌, true, false, ◌||◌, List, [], ◌∷◌, ◌++◌, fold, Option, Some, None, is_some, ℤ, refl, sym, ap, ◌∙◌, arith, nat_lt, Ordering, Less, Equal, Greater, BTreeSet}
use Rattle.std.specs.Ordering.{match_ordering, is_eq, ordering_reverse}
use Rattle.std.specs.List.{AllByRecursion, flat_map, list_any}
use Rattle.std.specs.List.Sorted.{IsStrictlySortedBy}
use Rattle.std.specs.Map.{keys_of}
use Rattle.std.specs.BTreeMap.{is_at, insert_entry}
use Rattle.std.proofs.lemmas.Bool.{cond_both}
use Rattle.std.proofs.lemmas.Bool.Decides.{nat_tests}
use Rattle.std.proofs.lemmas.List.{map-append}
use Rattle.std.proofs.lemmas.List.Folds.{list_any-append}
use Rattle.std.proofs.lemmas.Map.Lookups.{btree_set_from_contains}
use Rattle.std.proofs.lemmas.Map.Made.{is_some-lookup}
use Rattle.usage_totals.specs.declared.key.UsageKey.{UsageKey}
use Rattle.usage_totals.specs.declared.sums.Sum.{Sum}
use Rattle.usage_totals.specs.Keys.{key_cmp, key_cmp_total}
use Rattle.usage_totals.specs.Amounts.{Row, amount_at, all_amounts, amount, noted}
use Rattle.usage_totals.specs.Usage.{usage}
use Rattle.usage_totals.specs.Sums.{with_usage, total, is_among, is_used, amounts_in, keys_in}
use Rattle.usage_totals.specs.Table.{Table}
use Rattle.usage_totals.proofs.Ends.{usage_some}
use Rattle.usage_totals.proofs.Entries.{each_inserted}
use Rattle.usage_totals.proofs.Taken.{all_keys}
use Rattle.usage_totals.proofs.SameKey.{same_key}
use Rattle.usage_totals.proofs.KeyByKey.{has_amount}
use Rattle.usage_totals.proofs.Payloads.{amount_all}

-- ---- two lists in order of the same keys are the same

less_of_greater : (a b : UsageKey) → key_cmp a b ≡ Greater → key_cmp b a ≡ Less
less_of_greater a b e = key_cmp_total.antisymm b a ∙ ap ordering_reverse e

below_all : (k x : UsageKey) (xs : List UsageKey) → key_cmp k x ≡ Less → AllByRecursion (λ y. key_cmp x y ≡ Less) xs
    → AllByRecursion (λ y. key_cmp k y ≡ Less) xs
below_all k x [] e all = tt
below_all k x (y ∷ ys) e all = (key_cmp_total.trans k x y e all.0, below_all k x ys e all.1)

pub below_none : (k : UsageKey) (xs : List UsageKey) → AllByRecursion (λ y. key_cmp k y ≡ Less) xs → is_among k xs ≡ false
below_none k [] all = refl
below_none k (y ∷ ys) all = ap (λ o. is_eq o || is_among k ys) all.0 ∙ below_none k ys all.1

pub same_members : (xs ys : List UsageKey) → IsStrictlySortedBy key_cmp xs → IsStrictlySortedBy key_cmp ys
    → ((q : UsageKey) → is_among q xs ≡ is_among q ys) → xs ≡ ys
same_members xs ys a b same =
    let s : BTreeSet UsageKey = record { keys = xs } in
    let t : BTreeSet UsageKey = record { keys = ys } in
    btree_set_from_contains key_cmp_total s t a b same same_key

-- ---- noted amounts are in order

keys_above : (P : UsageKey → Type 0) (es : Row) → AllByRecursion (λ e. P e.0) es → AllByRecursion P (keys_of es)
keys_above P [] above = tt
keys_above P (e ∷ es) above = (above.0, keys_above P es above.1)

above_inserted : (b k : UsageKey) (v : ℤ) (es : Row) → key_cmp b k ≡ Less → AllByRecursion (λ y. key_cmp b y ≡ Less) (keys_of es)
    → AllByRecursion (λ y. key_cmp b y ≡ Less) (keys_of (insert_entry key_cmp es k v))
above_inserted b k v es x all =
    keys_above _ _ (each_inserted (λ e. key_cmp b e.0 ≡ Less) v (λ e below. below) key_cmp es k x (all_keys _ es all))

ordered_put : (o : Ordering) (k : UsageKey) (v : ℤ) (e : UsageKey × ℤ) (es put : Row) → key_cmp k e.0 ≡ o
    → AllByRecursion (λ y. key_cmp e.0 y ≡ Less) (keys_of es)
    → IsStrictlySortedBy key_cmp (keys_of es) → IsStrictlySortedBy key_cmp (keys_of put)
    → (key_cmp e.0 k ≡ Less → AllByRecursion (λ y. key_cmp e.0 y ≡ Less) (keys_of put))
    → IsStrictlySortedBy key_cmp (keys_of (match_ordering o ((k, v) ∷ e ∷ es) ((e.0, v) ∷ es) (e ∷ put)))
unfolding IsStrictlySortedBy
ordered_put Less k v e es put is above sorted put_sorted put_above = ((is, below_all k e.0 (keys_of es) is above), (above, sorted))
ordered_put Equal k v e es put is above sorted put_sorted put_above = (above, sorted)
ordered_put Greater k v e es put is above sorted put_sorted put_above = (put_above (less_of_greater k e.0 is), put_sorted)

ordered_inserted : (k : UsageKey) (v : ℤ) (es : Row) → IsStrictlySortedBy key_cmp (keys_of es)
    → IsStrictlySortedBy key_cmp (keys_of (insert_entry key_cmp es k v))
unfolding IsStrictlySortedBy
ordered_inserted k v [] sorted = (tt, tt)
ordered_inserted k v (e ∷ es) sorted =
    ordered_put (key_cmp k e.0) k v e es (insert_entry key_cmp es k v) refl sorted.0 sorted.1 (ordered_inserted k v es sorted.1)
    (λ x. above_inserted e.0 k v es x sorted.0)

ordered_noted : (row : Row) (es : Row) → IsStrictlySortedBy key_cmp (keys_of row) → IsStrictlySortedBy key_cmp (keys_of (fold noted row es))
ordered_noted row [] sorted = sorted
ordered_noted row (e ∷ es) sorted =
    ordered_noted (noted row e) es (cond_both (is_some (amount_at e.0 row)) row _ (λ r. IsStrictlySortedBy key_cmp (keys_of r)) (λ _. sorted)
    (λ _. ordered_inserted e.0 e.1 row sorted))

nothing_ordered : IsStrictlySortedBy key_cmp []
unfolding IsStrictlySortedBy
nothing_ordered = tt

pub keys_in_order : (table : Table (List ℕ)) → IsStrictlySortedBy key_cmp (keys_in table)
keys_in_order table = ordered_noted [] (amounts_in table) nothing_ordered

-- ---- and they are those that are used

module _ (q : UsageKey) where
  amount_append : (xs ys : Row) → is_some (amount_at q (xs ++ ys)) ≡ is_some (amount_at q xs) || is_some (amount_at q ys)
  amount_append xs ys =
      is_some-lookup (is_at (key_cmp q)) (xs ++ ys)
      ∙ ap (list_any (is_at (key_cmp q))) (map-append (λ (e : UsageKey × ℤ). e.0) xs ys)
      ∙ list_any-append (is_at (key_cmp q)) (keys_of xs) (keys_of ys)
      ∙ ap (λ b. b || list_any (is_at (key_cmp q)) (keys_of ys)) (sym (is_some-lookup (is_at (key_cmp q)) xs))
      ∙ ap (λ b. is_some (amount_at q xs) || b) (sym (is_some-lookup (is_at (key_cmp q)) ys))

  amounts_some : (ps : List (List ℕ)) → is_some (amount_at q (flat_map all_amounts ps)) ≡ list_any (λ p. is_some (amount p q)) ps
  amounts_some [] = refl
  amounts_some (p ∷ ps) =
      amount_append (all_amounts p) (flat_map all_amounts ps) ∙ ap (λ b. is_some (amount p q) || b) (amounts_some ps)

  meters_some : (table : Table (List ℕ)) → is_some (amount_at q (amounts_in table)) ≡ is_used table q
  meters_some [] = refl
  meters_some (m ∷ ms) =
      amount_append (flat_map all_amounts m.1) (amounts_in ms)
      ∙ ap (λ b. b || is_some (amount_at q (amounts_in ms))) (amounts_some m.1 ∙ sym (usage_some (λ p. amount p q) m.1))
      ∙ ap (λ b. is_some (usage m.1 q) || b) (meters_some ms)

  pub among_keys_in : (table : Table (List ℕ)) → is_among q (keys_in table) ≡ is_used table q
  among_keys_in table =
      sym (has_amount q (fold noted [] (amounts_in table))) ∙ ap is_some (amount_all q [] (amounts_in table)) ∙ meters_some table

  more_than_none : (n : ℕ) → nat_lt 0 (n + 1) ≡ true
  more_than_none n = grind (arith, nat_tests)

  counted_by : (u : Option ℤ) (s : Sum) → nat_lt 0 (with_usage u s).meters ≡ is_some u || nat_lt 0 s.meters
  counted_by None s = refl
  counted_by (Some v) s = more_than_none s.meters

  -- a key is used where its total counts a meter
  pub counted_used : (table : Table (List ℕ)) → nat_lt 0 (total table q).meters ≡ is_used table q
  counted_used [] = refl
  counted_used (m ∷ ms) = counted_by (usage m.1 q) (total ms q) ∙ ap (λ b. is_some (usage m.1 q) || b) (counted_used ms)
