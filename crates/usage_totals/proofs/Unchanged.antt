-- Edits that change nothing.
use Rattle.std.proofs.Common.{◌≡◌, ℕ, List, [], ◌∷◌, ◌++◌, length, remove, slice_get, Option, Some, None, refl, sym, ap, ◌∙◌, arith, slice_set, unwrap_or}
use Rattle.std.specs.List.{AllByRecursion}
use Rattle.std.specs.Map.{lookup, remove_entry}
use Rattle.std.proofs.lemmas.Bool.{cond_both}
use Rattle.std.proofs.lemmas.Bool.Decides.{nat_tests}
use Rattle.std.proofs.lemmas.List.{set-get_or}
use Rattle.std.proofs.lemmas.List.Sums.{fold-append}
use Rattle.std.proofs.lemmas.Map.Steps.{set_value_same}
use Rattle.std.proofs.lemmas.Option.{get_or_from_slice_get, slice_get_within, same_Some}
use Rattle.indexmap.specs.IndexMap.{insert_entry}
use Rattle.meter_address.specs.declared.address.Address.{Address}
use Rattle.usage_totals.specs.Table.{Table, same, rows_at, with_rows}
use Rattle.usage_totals.specs.Edits.{Edit, addition, replacement, removal, edited, rows_after}
use Rattle.usage_totals.proofs.Tables.{same_itself, set_is_with, rows_with, removed_with, append_some}
use Rattle.usage_totals.proofs.Edited.{remove_end}
use Rattle.usage_totals.proofs.Entries.{each_removed, each_put}
use Rattle.usage_totals.proofs.EachMeter.{after_edits}

abbrev Payloads : Type 0
Payloads = List (List ℕ)

-- ---- no address of a table that edits leave is without rows

abbrev AreFilled : Table (List ℕ) → Type 0
AreFilled table = AllByRecursion (λ meter. meter.1 ≡ [] → ⊥) table

filled_with : (table : Table (List ℕ)) (a : Address) (new : Payloads) → AreFilled table → AreFilled (with_rows table a new)
filled_with table a [] f = each_removed _ (same a) table f
filled_with table a (x ∷ xs) f = each_put _ (x ∷ xs) (λ meter some none. cc) same table a (λ none. cc) f

found_filled : (a : Address) (table : Table (List ℕ)) → AreFilled table → lookup (same a) table ≡ Some [] → ⊥
found_filled a [] f is = cc
found_filled a (e ∷ es) f is =
    cond_both (same a e.0) (Some e.1) (lookup (same a) es) (λ o. o ≡ Some [] → ⊥) (λ _ found. f.0 (same_Some e.1 [] found))
    (λ _. found_filled a es f.1) is

-- an address has rows, or it isn't in the table
none_by : (o : Option Payloads) → (o ≡ Some [] → ⊥) → unwrap_or o [] ≡ [] → o ≡ None
none_by None filled_one is = refl
none_by (Some rows) filled_one is = absurd (filled_one (ap Some is))

absent : (a : Address) (edits : List Edit) → rows_at a (rows_after edits) ≡ [] → lookup (same a) (rows_after edits) ≡ None
absent a edits is =
    none_by (lookup (same a) (rows_after edits)) (found_filled a (rows_after edits)
    (after_edits AreFilled tt filled_with edits)) is

-- ---- writing what is there

insert_again : (a : Address) (table : Table (List ℕ)) (rows new : Payloads)
    → insert_entry same (insert_entry same table a rows) a new ≡ insert_entry same table a new
insert_again a [] rows new = rw (same_itself a) refl
insert_again a (e ∷ es) rows new = let rest = insert_again a es rows new in grind (arith, nat_tests)

some_by : (o : Option Payloads) (rows : Payloads) → (rows ≡ [] → ⊥) → unwrap_or o [] ≡ rows → o ≡ Some rows
some_by None rows some is = absurd (some (sym is))
some_by (Some found) rows some is = ap Some is

with_same : (a : Address) (table : Table (List ℕ)) (rows : Payloads) → (rows ≡ [] → ⊥) → rows_at a table ≡ rows
    → with_rows table a rows ≡ table
with_same a table rows some is =
    let found = some_by (lookup (same a) table) rows some is in
    sym (set_is_with a table rows rows found some) ∙ set_value_same (same a) table rows found

-- ---- a row that is replaced by itself

set_same : (rows : Payloads) (place : ℕ) (p : List ℕ) → slice_get rows place ≡ Some p → slice_set rows place p ≡ rows
set_same rows place p is = ap (slice_set rows place) (sym (get_or_from_slice_get rows place p [] is)) ∙ set-get_or rows place []

pub replaced_itself : (edits : List Edit) (a : Address) (place : ℕ) (p : List ℕ) → slice_get (rows_at a (rows_after edits)) place ≡ Some p
    → rows_after (edits ++ replacement a place p ∷ []) ≡ rows_after edits
replaced_itself edits a place p is =
    let table = rows_after edits in
    fold-append edited [] edits (replacement a place p ∷ []) ∙ ap (with_rows table a) (set_same (rows_at a table) place p is)
    ∙ with_same a table (rows_at a table) (λ none. omega (arith, slice_get_within (rows_at a table) place p is, ap length none)) refl

-- ---- a row that is added and removed

remove_absent : (a : Address) (table : Table (List ℕ)) → lookup (same a) table ≡ None → remove_entry (same a) table ≡ table
remove_absent a [] is = refl
remove_absent a (e ∷ es) is = let rest = remove_absent a es in grind (arith, nat_tests)

put_back : (a : Address) (edits : List Edit) (p : List ℕ) (rows : Payloads) → rows_at a (rows_after edits) ≡ rows
    → with_rows (with_rows (rows_after edits) a (rows ++ p ∷ [])) a rows ≡ rows_after edits
put_back a edits p [] is =
    removed_with a (rows_after edits) (p ∷ []) (append_some [] p) ∙ remove_absent a (rows_after edits) (absent a edits is)
put_back a edits p (r ∷ rs) is =
    insert_again a (rows_after edits) (r ∷ (rs ++ p ∷ [])) (r ∷ rs) ∙ with_same a (rows_after edits) (r ∷ rs) (λ e. cc) is

pub added_and_removed : (edits : List Edit) (a : Address) (p : List ℕ)
    → rows_after (edits ++ addition a p ∷ removal a (length (rows_at a (rows_after edits))) ∷ []) ≡ rows_after edits
added_and_removed edits a p =
    let table = rows_after edits in
    let rows = rows_at a table in
    let more = with_rows table a (rows ++ p ∷ []) in
    fold-append edited [] edits (addition a p ∷ removal a (length rows) ∷ [])
    ∙ ap (λ r. with_rows more a (remove r (length rows))) (rows_with a table (rows ++ p ∷ []) (append_some rows p))
    ∙ ap (with_rows more a) (remove_end rows p) ∙ put_back a edits p rows refl
