-- What is kept of payloads says what they say.
use Rattle.std.proofs.Common.{◌≡◌, ℕ, Bool, true, false, cond, List, [], ◌∷◌, map, fold, Option, Some, None, is_some, ℤ, refl, sym, ap, ◌∙◌, if◌then◌else◌}
use Rattle.std.specs.Ordering.{match_ordering}
use Rattle.std.specs.FinMap.Entries.{put, find-put}
use Rattle.std.specs.Option.{option_or}
use Rattle.std.specs.BTreeMap.{is_at, insert_entry}
use Rattle.usage_totals.specs.declared.key.UsageKey.{UsageKey}
use Rattle.usage_totals.specs.Keys.{key_cmp, key_cmp_total}
use Rattle.usage_totals.specs.Amounts.{Row, amount_at, noted, all_amounts, amount, row_of}
use Rattle.usage_totals.specs.Usage.{first, last, less, usage, usage_at}
use Rattle.usage_totals.specs.Sums.{with_usage, total, total_at}
use Rattle.usage_totals.specs.Table.{Table, kept}
use Rattle.usage_totals.proofs.Ends.{or_none, or_assoc}
use Rattle.usage_totals.proofs.SameKey.{same_by_test}

-- a new amount is found at its key, and all others where they were
inserted_is : (row : Row) (k : UsageKey) (v : ℤ) → insert_entry key_cmp row k v ≡ put key_cmp k v row
inserted_is [] k v = refl
inserted_is (e ∷ es) k v = ap (λ z. match_ordering (key_cmp k e.0) ((k, v) ∷ e ∷ es) ((e.0, v) ∷ es) (e ∷ z)) (inserted_is es k v)

amount_inserted : (q k : UsageKey) (v : ℤ) (row : Row)
    → amount_at q (insert_entry key_cmp row k v) ≡ cond (is_at (key_cmp q) k) (Some v) (amount_at q row)
amount_inserted q k v row = ap (amount_at q) (inserted_is row k v) ∙ find-put key_cmp key_cmp_total q k v row

or_here : (o : Option ℤ) (v : ℤ) → is_some o ≡ true → option_or o (Some v) ≡ o
or_here None v e = absurd cc
or_here (Some x) v e = refl

or_absent : (o : Option ℤ) (v : ℤ) → is_some o ≡ false → Some v ≡ option_or o (Some v)
or_absent None v e = refl
or_absent (Some x) v e = absurd cc

cond_or : (x : Bool) (v : ℤ) (o : Option ℤ) → option_or (cond x (Some v) None) o ≡ cond x (Some v) o
cond_or true v o = refl
cond_or false v o = refl

module _ (q : UsageKey) where
  noted_by : (row : Row) (entry : UsageKey × ℤ) (there here : Bool) → is_some (amount_at entry.0 row) ≡ there
      → is_at (key_cmp q) entry.0 ≡ here
      → amount_at q (if there then row else insert_entry key_cmp row entry.0 entry.1)
      ≡ option_or (amount_at q row) (cond here (Some entry.1) None)
  noted_by row entry true true e is =
      sym (or_here (amount_at q row) entry.1 (ap (λ p. is_some (amount_at p row)) (same_by_test q entry.0 is) ∙ e))
  noted_by row entry true false e is = sym (or_none (amount_at q row))
  noted_by row entry false true e is =
      amount_inserted q entry.0 entry.1 row ∙ ap (λ t. cond t (Some entry.1) (amount_at q row)) is
      ∙ or_absent (amount_at q row) entry.1 (ap (λ p. is_some (amount_at p row)) (same_by_test q entry.0 is) ∙ e)
  noted_by row entry false false e is =
      amount_inserted q entry.0 entry.1 row ∙ ap (λ t. cond t (Some entry.1) (amount_at q row)) is ∙ sym (or_none (amount_at q row))

  pub amount_all : (row entries : Row) → amount_at q (fold noted row entries) ≡ option_or (amount_at q row) (amount_at q entries)
  amount_all row [] = sym (or_none (amount_at q row))
  amount_all row (e ∷ es) =
      amount_all (noted row e) es ∙ ap (λ o. option_or o (amount_at q es)) (noted_by row e _ _ refl refl)
      ∙ or_assoc (amount_at q row) _ (amount_at q es)
      ∙ ap (option_or (amount_at q row)) (cond_or (is_at (key_cmp q) e.0) e.1 (amount_at q es))

  -- the row of a payload has its amounts
  pub amount_kept : (payload : List ℕ) → amount_at q (row_of payload) ≡ amount payload q
  unfolding row_of
  amount_kept payload = amount_all [] (all_amounts payload)

  first_kept : (ps : List (List ℕ)) → first (amount_at q) (map row_of ps) ≡ first (λ p. amount p q) ps
  first_kept [] = refl
  first_kept (p ∷ ps) =
      ap (λ o. option_or o (first (amount_at q) (map row_of ps))) (amount_kept p) ∙ ap (option_or (amount p q)) (first_kept ps)

  last_kept : (ps : List (List ℕ)) → last (amount_at q) (map row_of ps) ≡ last (λ p. amount p q) ps
  last_kept [] = refl
  last_kept (p ∷ ps) =
      ap (λ o. option_or o (amount_at q (row_of p))) (last_kept ps) ∙ ap (option_or (last (λ p. amount p q) ps)) (amount_kept p)

  -- the rows of payloads have their usage
  pub usage_kept : (ps : List (List ℕ)) → usage_at q (map row_of ps) ≡ usage ps q
  usage_kept ps =
      ap (λ o. less o (first (amount_at q) (map row_of ps))) (last_kept ps) ∙ ap (less (last (λ p. amount p q) ps)) (first_kept ps)

  -- and the table of them has their total
  pub total_kept : (table : Table (List ℕ)) → total_at q (kept table) ≡ total table q
  total_kept [] = refl
  total_kept (e ∷ es) = ap (λ o. with_usage o (total_at q (kept es))) (usage_kept e.1) ∙ ap (with_usage (usage e.1 q)) (total_kept es)
