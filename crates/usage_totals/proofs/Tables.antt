-- Tables of rows, and their totals, under an edit of one address's rows.
use Rattle.std.proofs.Common.{◌≡◌, ℕ, suc, ◌+◌, ◌*◌, ◌^◌, ◌<◌, ◌≤◌, true, List, [], ◌∷◌, ◌++◌, map, length, remove, Option, Some, None, IfSome, ℤ, pos, neg_ℤ, ◌+ℤ◌, ◌≤ℤ◌, refl, sym, ap, ◌∙◌, arith, slice_set, unwrap_or, option_map, length-append, length-set}
use Rattle.std.specs.Map.{lookup, remove_entry, set_value}
use Rattle.std.specs.BTreeMap.{is_at}
use Rattle.std.proofs.lemmas.Bool.Decides.{nat_tests}
use Rattle.std.proofs.lemmas.Int.{ints}
use Rattle.std.proofs.lemmas.List.Edits.{length-remove}
use Rattle.std.proofs.lemmas.Map.Made.{lookup-map_values}
use Rattle.indexmap.specs.IndexMap.{insert_entry}
use Rattle.meter_address.specs.declared.address.Address.{Address}
use Rattle.usage_totals.specs.declared.key.UsageKey.{UsageKey}
use Rattle.usage_totals.specs.declared.sums.Sum.{Sum}
use Rattle.usage_totals.specs.Keys.{key_cmp}
use Rattle.usage_totals.specs.Amounts.{Row, row_of, amount_at, IsWithin}
use Rattle.usage_totals.specs.Usage.{first, last, less, usage_at}
use Rattle.usage_totals.specs.Sums.{with_usage, total_at, IsFitting}
use Rattle.usage_totals.specs.Table.{Table, same, rows_at, with_rows, kept}
use Rattle.usage_totals.proofs.Small.{either_small, lookup_small, row_small}

-- ---- one address's rows are written

pub same_itself : (a : Address) → same a a ≡ true
same_itself a = grind (arith, nat_tests)

module _ {X : Type 0} (a : Address) where
  set_is_insert : (table : Table X) (rows new : List X) → lookup (same a) table ≡ Some rows
      → set_value (same a) table new ≡ insert_entry same table a new
  set_is_insert [] rows new is = absurd cc
  set_is_insert (e ∷ es) rows new is = let rest = set_is_insert es rows new in grind (arith, nat_tests)

  -- writing rows that are some is having them
  pub set_is_with : (table : Table X) (rows new : List X) → lookup (same a) table ≡ Some rows → (new ≡ [] → ⊥)
      → set_value (same a) table new ≡ with_rows table a new
  set_is_with table rows [] is some = absurd (some refl)
  set_is_with table rows (x ∷ xs) is some = set_is_insert table rows (x ∷ xs) is

  pub removed_inserted : (table : Table X) (new : List X)
      → remove_entry (same a) (insert_entry same table a new) ≡ remove_entry (same a) table
  removed_inserted [] new = rw (same_itself a) refl
  removed_inserted (e ∷ es) new = let rest = removed_inserted es new in grind (arith, nat_tests)

  pub removed_with : (table : Table X) (new : List X) → (new ≡ [] → ⊥)
      → remove_entry (same a) (with_rows table a new) ≡ remove_entry (same a) table
  removed_with table [] some = absurd (some refl)
  removed_with table (x ∷ xs) some = removed_inserted table (x ∷ xs)

  found_inserted : (table : Table X) (new : List X) → lookup (same a) (insert_entry same table a new) ≡ Some new
  found_inserted [] new = rw (same_itself a) refl
  found_inserted (e ∷ es) new = let rest = found_inserted es new in grind (arith, nat_tests)

  pub rows_with : (table : Table X) (new : List X) → (new ≡ [] → ⊥) → rows_at a (with_rows table a new) ≡ new
  rows_with table [] some = absurd (some refl)
  rows_with table (x ∷ xs) some = ap (λ o. unwrap_or o []) (found_inserted table (x ∷ xs))

-- the rows that were found are written otherwise
pub written_as : {X : Type 0} (a : Address) (table other : Table X) (old : List X) (f : List X → List X) → Some old ≡ lookup (same a) table
    → other ≡ set_value (same a) table (f old) → (f old ≡ [] → ⊥) → other ≡ with_rows table a (f (rows_at a table))
written_as a table other old f found is some =
    is ∙ set_is_with a table old (f old) (sym found) some ∙ ap (λ o. with_rows table a (f (unwrap_or o []))) found

pub append_some : {X : Type 0} (xs : List X) (x : X) → xs ++ x ∷ [] ≡ [] → ⊥
append_some xs x e = omega (arith, length-append xs (x ∷ []), ap length e)

pub remove_some : {X : Type 0} (xs : List X) (i : ℕ) → i < length xs → (length xs ≡ 1 → ⊥) → remove xs i ≡ [] → ⊥
remove_some xs i lt many e = many (omega (arith, length-remove xs i lt, ap length e))

pub set_some : {X : Type 0} (xs : List X) (i : ℕ) (v : X) → i < length xs → slice_set xs i v ≡ [] → ⊥
set_some xs i v lt e = omega (arith, lt, length-set xs i v, ap length e)

-- ---- what is kept of payloads, and what is kept after an edit

kept_by : (o : Option (List (List ℕ))) → unwrap_or (option_map (map row_of) o) [] ≡ map row_of (unwrap_or o [])
kept_by None = refl
kept_by (Some rows) = refl

pub kept_rows : (a : Address) (table : Table (List ℕ)) → rows_at a (kept table) ≡ map row_of (rows_at a table)
kept_rows a table = ap (λ o. unwrap_or o []) (lookup-map_values (map row_of) (same a) table) ∙ kept_by (lookup (same a) table)

kept_removed : (a : Address) (table : Table (List ℕ)) → remove_entry (same a) (kept table) ≡ kept (remove_entry (same a) table)
kept_removed a [] = refl
kept_removed a (e ∷ es) = let rest = kept_removed a es in grind (arith, nat_tests)

kept_inserted : (a : Address) (table : Table (List ℕ)) (new : List (List ℕ))
    → insert_entry same (kept table) a (map row_of new) ≡ kept (insert_entry same table a new)
kept_inserted a [] new = refl
kept_inserted a (e ∷ es) new = let rest = kept_inserted a es new in grind (arith, nat_tests)

pub kept_with : (a : Address) (table : Table (List ℕ)) (new : List (List ℕ))
    → with_rows (kept table) a (map row_of new) ≡ kept (with_rows table a new)
kept_with a table [] = kept_removed a table
kept_with a table (x ∷ xs) = kept_inserted a table (x ∷ xs)

-- ---- totals

abbrev sum_of : ℕ → ℤ → Sum
sum_of m z = record { meters = m; amount = z }

swap_usage : (u v : Option ℤ) (s : Sum) → with_usage u (with_usage v s) ≡ with_usage v (with_usage u s)
swap_usage None v s = refl
swap_usage (Some u) None s = refl
swap_usage (Some u) (Some v) s =
    let e : (s.amount +ℤ v) +ℤ u ≡ (s.amount +ℤ u) +ℤ v = omega (arith, ints) in
    ap (λ (z : ℤ). sum_of (s.meters + 1 + 1) z) e

module _ (q : UsageKey) (a : Address) where
  -- the usage of one address, and that of the others
  pub total_split : (table : Table Row)
      → total_at q table ≡ with_usage (usage_at q (rows_at a table)) (total_at q (remove_entry (same a) table))
  total_split [] = refl
  total_split (e ∷ es) =
      let rest = total_split es in
      let swapped = swap_usage (usage_at q e.1) (usage_at q (rows_at a es)) (total_at q (remove_entry (same a) es)) in
      grind (arith, nat_tests)

  pub total_with : (table : Table Row) (rows : List Row)
      → total_at q (with_rows table a rows) ≡ with_usage (usage_at q rows) (total_at q (remove_entry (same a) table))
  total_with table [] = refl
  total_with table (x ∷ xs) =
      total_split (insert_entry same table a (x ∷ xs))
      ∙ ap (λ rows. with_usage (usage_at q rows) (total_at q (remove_entry (same a) (insert_entry same table a (x ∷ xs)))))
      (rows_with a table (x ∷ xs) (λ e. cc))
      ∙ ap (λ t. with_usage (usage_at q (x ∷ xs)) (total_at q t)) (removed_inserted a table (x ∷ xs))

-- writing the same rows makes no difference to a total
pub total_same : (q : UsageKey) (a : Address) (table : Table Row) → total_at q (with_rows table a (rows_at a table)) ≡ total_at q table
total_same q a table = total_with q a table (rows_at a table) ∙ sym (total_split q a table)

-- nor does what was written before
pub total_again : (q : UsageKey) (a : Address) (table : Table Row) (before rows : List Row) → (before ≡ [] → ⊥)
    → total_at q (with_rows (with_rows table a before) a rows) ≡ total_at q (with_rows table a rows)
total_again q a table before rows some =
    total_with q a (with_rows table a before) rows
    ∙ ap (λ z. with_usage (usage_at q rows) (total_at q z)) (removed_with a table before some) ∙ sym (total_with q a table rows)

-- ---- totals fit

-- Each of n usages lies strictly between -2^81 and 2^81.
record IsBounded (n : ℕ) (sum : Sum) : Type 0 where
  meters : sum.meters ≤ n
  low : neg_ℤ (pos (2417851639229258349412351 * n)) ≤ℤ sum.amount
  high : sum.amount ≤ℤ pos (2417851639229258349412351 * n)

module _ (q : UsageKey) where
  amount_fits : (p : List ℕ) → IfSome (amount_at q (row_of p)) (IsWithin (2 ^ 80))
  amount_fits p = lookup_small (is_at (key_cmp q)) (row_of p) (row_small p)

  first_fits : (ps : List (List ℕ)) → IfSome (first (amount_at q) (map row_of ps)) (IsWithin (2 ^ 80))
  first_fits [] = tt
  first_fits (p ∷ ps) = either_small _ _ (amount_fits p) (first_fits ps)

  last_fits : (ps : List (List ℕ)) → IfSome (last (amount_at q) (map row_of ps)) (IsWithin (2 ^ 80))
  last_fits [] = tt
  last_fits (p ∷ ps) = either_small _ _ (last_fits ps) (amount_fits p)

  less_fits : (a b : Option ℤ) → IfSome a (IsWithin (2 ^ 80)) → IfSome b (IsWithin (2 ^ 80)) → IfSome (less a b) (IsWithin (2 ^ 81))
  less_fits None b x y = tt
  less_fits (Some v) None x y = tt
  less_fits (Some v) (Some w) x y =
      record { low = omega (arith, ints, x.low, x.high, y.low, y.high); high = omega (arith, ints, x.low, x.high, y.low, y.high) }

  usage_fits : (ps : List (List ℕ)) → IfSome (usage_at q (map row_of ps)) (IsWithin (2 ^ 81))
  usage_fits ps = less_fits _ _ (last_fits ps) (first_fits ps)

  with_bounded : (n : ℕ) (u : Option ℤ) (s : Sum) → IfSome u (IsWithin (2 ^ 81)) → IsBounded n s → IsBounded (suc n) (with_usage u s)
  with_bounded n None s small b =
      record { meters = omega (arith, b.meters); low = omega (arith, ints, b.low); high = omega (arith, ints, b.high) }
  with_bounded n (Some v) s small b =
      record {
        meters = omega (arith, b.meters);
        low = omega (arith, ints, b.low, small.low);
        high = omega (arith, ints, b.high, small.high);
      }

  total_bounded : (table : Table (List ℕ)) → IsBounded (length table) (total_at q (kept table))
  total_bounded [] = record { meters = omega arith; low = omega (arith, ints); high = omega (arith, ints) }
  total_bounded (e ∷ es) = with_bounded (length es) _ _ (usage_fits e.1) (total_bounded es)

  pub total_fits : (table : Table (List ℕ)) → length table ≤ 8192 → IsFitting (2 ^ 100) (total_at q (kept table))
  total_fits table few =
      let b = total_bounded table in
      record { meters = omega (arith, b.meters); amount = record { low = omega (arith, ints, b.low); high = omega (arith, ints, b.high) } }

  -- no total of 4,096 meters comes to 2^93
  pub total_below : (table : Table (List ℕ)) → length table ≤ 4096 → IsWithin (2 ^ 93) (total_at q (kept table)).amount
  total_below table few =
      let b = total_bounded table in
      record { low = omega (arith, ints, b.low); high = omega (arith, ints, b.high) }
