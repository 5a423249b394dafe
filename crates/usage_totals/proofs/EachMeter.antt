-- Each meter of a table that edits leave stands there once, and the total is over all of them.
use Rattle.std.proofs.Common.{◌≡◌, ℕ, false, List, [], ◌∷◌, length, Option, Some, None, ℤ, refl, ap, ◌∙◌, add-one, arith, fold}
use Rattle.std.specs.List.{cons_option, AllByRecursion}
use Rattle.std.specs.Map.{remove_entry}
use Rattle.std.proofs.lemmas.Bool.{cond_both}
use Rattle.std.proofs.lemmas.Bool.Decides.{nat_tests}
use Rattle.indexmap.specs.IndexMap.{insert_entry}
use Rattle.lists.specs.Each.{Each}
use Rattle.meter_address.specs.declared.address.Address.{Address}
use Rattle.usage_totals.specs.declared.key.UsageKey.{UsageKey}
use Rattle.usage_totals.specs.declared.sums.Sum.{Sum}
use Rattle.usage_totals.specs.Usage.{usage}
use Rattle.usage_totals.specs.Sums.{with_usage, total, sum_of, usages_in}
use Rattle.usage_totals.specs.Table.{Table, same, rows_at, with_rows}
use Rattle.usage_totals.specs.Edits.{Edit, addition, replacement, removal, edited, rows_after}
use Rattle.usage_totals.proofs.Entries.{all_both, each_removed, each_put}
use Rattle.usage_totals.proofs.Tables.{same_itself}

-- what writing rows keeps holds of the table that edits leave
edits_keep : (P : Table (List ℕ) → Type 0)
    → ((table : Table (List ℕ)) (a : Address) (rows : List (List ℕ)) → P table → P (with_rows table a rows))
    → (edits : List Edit) (table : Table (List ℕ)) → P table → P (fold edited table edits)
edits_keep P written [] table p = p
edits_keep P written (addition a payload ∷ edits) table p = edits_keep P written edits _ (written table a _ p)
edits_keep P written (replacement a place payload ∷ edits) table p = edits_keep P written edits _ (written table a _ p)
edits_keep P written (removal a place ∷ edits) table p = edits_keep P written edits _ (written table a _ p)

pub after_edits : (P : Table (List ℕ) → Type 0) → P []
    → ((table : Table (List ℕ)) (a : Address) (rows : List (List ℕ)) → P table → P (with_rows table a rows)) → (edits : List Edit)
    → P (rows_after edits)
after_edits P none written edits = edits_keep P written edits [] none

-- no later entry has an earlier one's address
abbrev AreApart : Table (List ℕ) → Type 0
AreApart [] = Unit {0}
AreApart (e ∷ es) = AllByRecursion (λ m. same e.0 m.0 ≡ false) es × AreApart es

turned : (a b : Address) → same a b ≡ false → same b a ≡ false
turned a b is = grind (arith, nat_tests)

apart_removed : (a : Address) (table : Table (List ℕ)) → AreApart table → AreApart (remove_entry (same a) table)
apart_removed a [] apart = tt
apart_removed a (e ∷ es) apart =
    cond_both (same a e.0) es (e ∷ remove_entry (same a) es) AreApart (λ _. apart.1)
    (λ _. (each_removed _ (same a) es apart.0, apart_removed a es apart.1))

apart_put : (a : Address) (table : Table (List ℕ)) (rows : List (List ℕ)) → AreApart table → AreApart (insert_entry same table a rows)
apart_put a [] rows apart = (tt, tt)
apart_put a (e ∷ es) rows apart =
    cond_both (same a e.0) ((e.0, rows) ∷ es) (e ∷ insert_entry same es a rows) AreApart (λ _. apart)
    (λ other. (each_put _ rows (λ m p. p) same es a (turned a e.0 other) apart.0, apart_put a es rows apart.1))

apart_with : (table : Table (List ℕ)) (a : Address) (rows : List (List ℕ)) → AreApart table → AreApart (with_rows table a rows)
apart_with table a [] apart = apart_removed a table apart
apart_with table a (r ∷ rs) apart = apart_put a table (r ∷ rs) apart

-- ---- each meter's rows are those of its address

own_rows : (table : Table (List ℕ)) → AreApart table → AllByRecursion (λ m. rows_at m.0 table ≡ m.1) table
own_rows [] apart = tt
own_rows (e ∷ es) apart = (
  rw (same_itself e.0) refl,
  all_both {A = Address × List (List ℕ)} (λ m. same e.0 m.0 ≡ false) (λ m. rows_at m.0 es ≡ m.1) (λ m. rows_at m.0 (e ∷ es) ≡ m.1)
      (λ (m : Address × List (List ℕ)) other found. rw (turned e.0 m.0 other) found) es apart.0 (own_rows es apart.1),
)

each_of_all : {A : Type 0} (P : A → Type 0) (xs : List A) → AllByRecursion P xs → Each P xs
each_of_all P [] all = tt
each_of_all P (x ∷ xs) all = (all.0, each_of_all P xs all.1)

pub each_has_its_rows : (edits : List Edit) → Each (λ m. rows_at m.0 (rows_after edits) ≡ m.1) (rows_after edits)
each_has_its_rows edits = each_of_all _ (rows_after edits) (own_rows (rows_after edits) (after_edits AreApart tt apart_with edits))

-- ---- the total is over all meters

abbrev summed : List ℤ → Sum
summed usages = record { meters = length usages; amount = sum_of usages }

with_one : (o : Option ℤ) (usages : List ℤ) → with_usage o (summed usages) ≡ summed (cons_option o usages)
with_one None usages = refl
with_one (Some used) usages = rw (add-one (length usages)) refl

pub total_is_sum : (table : Table (List ℕ)) (key : UsageKey) → total table key ≡ summed (usages_in table key)
total_is_sum [] key = refl
total_is_sum (m ∷ ms) key = ap (with_usage (usage m.1 key)) (total_is_sum ms key) ∙ with_one (usage m.1 key) (usages_in ms key)
