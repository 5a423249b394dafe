-- What is kept stays kept when a row is added or removed.
use Rattle.std.proofs.Common.{⊎_elim, ◌≡◌, ℕ, zero, suc, ◌+◌, ◌^◌, ◌<◌, ◌≤◌, Bool, true, false, List, [], ◌∷◌, ◌++◌, map, length, get_or, remove, Option, Some, None, Result, Ok, Err, OnOk, OnErr, is_some, ℤ, refl, sym, ap, ◌∙◌, subst, arith, slice_set}
use Rattle.std.proofs.lemmas.Bool.{cases_Bool}
use Rattle.std.proofs.lemmas.Bool.Decides.{nat_tests}
use Rattle.std.proofs.lemmas.List.{length-append, length-map, length-set, get_or-set_same}
use Rattle.std.proofs.lemmas.Map.Keys.{any_passes_from_place}
use Rattle.std.proofs.lemmas.Option.{slice_get-get_or}
use Rattle.std.proofs.Math.Seq.{get_or-append_seam}
use Rattle.std.specs.Map.{remove_entry}
use Rattle.std.proofs.lemmas.List.{map-append, map-set}
use Rattle.indexmap.specs.IndexMap.{insert_entry}
use Rattle.indexmap.proofs.SetLemmas.{map-remove}
use Rattle.meter_address.specs.declared.address.Address.{Address}
use Rattle.usage_totals.specs.declared.key.UsageKey.{UsageKey}
use Rattle.usage_totals.specs.declared.sums.Sum.{Sum}
use Rattle.usage_totals.specs.Amounts.{Row, row_of, amount_at}
use Rattle.usage_totals.specs.Usage.{usage_at}
use Rattle.usage_totals.specs.Sums.{no_sum, with_usage, sum_at, has_sum, total_at, IsFitting}
use Rattle.usage_totals.specs.Table.{Table, same, rows_at, with_rows, added, replaced, removed, kept, IsKept}
use Rattle.usage_totals.proofs.Ends.{usage_some}
use Rattle.usage_totals.proofs.KeyByKey.{sum_none}
use Rattle.usage_totals.proofs.Tables.{kept_rows, kept_with, rows_with, append_some, set_some, total_split, total_same, total_again, total_fits}

-- ---- how many there are

few_removed : (a : Address) (table : Table Row) → length (remove_entry (same a) table) ≤ length table
few_removed a [] = omega arith
few_removed a (e ∷ es) = let rest = few_removed a es in grind (arith, nat_tests)

-- one more at most, and none where the address has rows already
few_put : (a : Address) (table : Table Row) (new : List Row)
    → (length (insert_entry same table a new) ≤ length table + 1)
    × ((rows_at a table ≡ [] → ⊥) → length (insert_entry same table a new) ≡ length table)
few_put a [] new = (omega arith, λ some. absurd (some refl))
few_put a (e ∷ es) new =
    ⊎_elim (λ here. rw here (omega arith, λ some. refl))
    (λ other. rw other (omega (arith, (few_put a es new).0), λ some. ap suc ((few_put a es new).1 some))) (cases_Bool (same a e.0))

few_with : (a : Address) (table : Table Row) (new rows : List Row) → rows_at a table ≡ rows → length table ≤ 4096
    → (rows_at a table ≡ [] → length table < 4096) → length (with_rows table a new) ≤ 4096
few_with a table [] rows e few room = omega (arith, few_removed a table)
few_with a table (x ∷ xs) [] e few room = omega (arith, (few_put a table (x ∷ xs)).0, room e)
few_with a table (x ∷ xs) (r ∷ rs) e few room =
    omega (arith, few, (few_put a table (x ∷ xs)).1 (λ none. (let clash : r ∷ rs ≡ [] = sym e ∙ none in cc)))

-- ---- an edit of payloads and of what is kept of them

pub added_stands : (new old : Table Row) (a : Address) (payload : List ℕ) → new ≡ added old a (row_of payload) → (table : Table (List ℕ))
    → old ≡ kept table → new ≡ kept (added table a payload)
added_stands new old a payload e table is =
    e ∙ ap (λ t. added t a (row_of payload)) is
    ∙ ap (with_rows (kept table) a) (ap (λ rs. rs ++ row_of payload ∷ []) (kept_rows a table)
    ∙ sym (map-append row_of (rows_at a table) (payload ∷ []))) ∙ kept_with a table _

pub replaced_stands : (new old : Table Row) (a : Address) (place : ℕ) (payload : List ℕ) → new ≡ replaced old a place (row_of payload)
    → (table : Table (List ℕ)) → old ≡ kept table → new ≡ kept (replaced table a place payload)
replaced_stands new old a place payload e table is =
    e ∙ ap (λ t. replaced t a place (row_of payload)) is
    ∙ ap (with_rows (kept table) a) (ap (λ rs. slice_set rs place (row_of payload)) (kept_rows a table)
    ∙ sym (map-set row_of (rows_at a table) place payload)) ∙ kept_with a table _

pub removed_stands : (new old : Table Row) (a : Address) (place : ℕ) → new ≡ removed old a place → (table : Table (List ℕ))
    → old ≡ kept table → new ≡ kept (removed table a place)
removed_stands new old a place e table is =
    e ∙ ap (λ t. removed t a place) is
    ∙ ap (with_rows (kept table) a) (ap (λ rs. remove rs place) (kept_rows a table)
    ∙ sym (map-remove row_of (rows_at a table) place)) ∙ kept_with a table _

-- ---- what is kept

counted_some : (u : Option ℤ) (rest : Sum) → is_some u ≡ true → with_usage u rest ≡ no_sum → ⊥
counted_some None rest e is = absurd cc
counted_some (Some v) rest e is = omega (arith, ap (λ (s : Sum). s.meters) is)

has_by : (q : UsageKey) (sums : List (UsageKey × Sum)) (b : Bool) → has_sum q sums ≡ b → (sum_at q sums ≡ no_sum → ⊥) → b ≡ true
has_by q sums true e other = refl
has_by q sums false e other = absurd (other (sum_none q sums e))

pub length_kept : (table : Table (List ℕ)) → length (kept table) ≡ length table
length_kept table = length-map table (λ (meter : Address × List (List ℕ)). (meter.0, map row_of meter.1))

module _ {table : Table Row} {old : List (UsageKey × Sum)} (k : IsKept table old) (new : List (UsageKey × Sum)) where
  module _ (same_sums : (q : UsageKey) → sum_at q new ≡ sum_at q old) where
    pub kept_sums : IsKept table new
    kept_sums = record { payloads = k.payloads; rows = k.rows; few = k.few; totals = λ q. same_sums q ∙ k.totals q }

    pub kept_fits : (q : UsageKey) → IsFitting (2 ^ 100) (sum_at q new)
    kept_fits q =
        let few : length k.payloads ≤ 8192 = omega (arith, k.few, ap length k.rows, length_kept k.payloads) in
        subst (IsFitting (2 ^ 100)) (sym (same_sums q ∙ k.totals q ∙ ap (total_at q) k.rows)) (total_fits q k.payloads few)

    -- the sums of a row that stands there are kept
    pub kept_there : (a : Address) (place : ℕ) → place < length (rows_at a table) → (q : UsageKey) (d : Row)
        → is_some (amount_at q (get_or (rows_at a table) place d)) ≡ true → has_sum q new ≡ true
    kept_there a place lt q d e =
        has_by q new (has_sum q new) refl (λ none. counted_some (usage_at q (rows_at a table)) (total_at q (remove_entry (same a) table))
        (usage_some (amount_at q) (rows_at a table)
        ∙ any_passes_from_place (λ row. is_some (amount_at q row)) (rows_at a table) place (get_or (rows_at a table) place d)
        (slice_get-get_or (rows_at a table) place d lt) e) (sym (same_sums q ∙ k.totals q ∙ total_split q a table) ∙ none))

    -- the sums before the row of an address goes
    pub kept_before : (a : Address) (q : UsageKey) → sum_at q new ≡ total_at q (with_rows table a (rows_at a table))
    kept_before a q = same_sums q ∙ k.totals q ∙ sym (total_same q a table)

  module _ (a : Address) (other : Table Row) where
    kept_changed : (rows : List Row) (payloads : Table (List ℕ)) → (rows_at a table ≡ [] → length table < 4096)
        → other ≡ with_rows table a rows → other ≡ kept payloads → ((q : UsageKey) → sum_at q new ≡ total_at q other) → IsKept other new
    kept_changed rows payloads room e is totals = record {
      payloads = payloads;
      rows = is;
      few = subst (λ t. length t ≤ 4096) (sym e) (few_with a table rows (rows_at a table) refl k.few room);
      totals = totals;
    }

    pub kept_added : (payload : List ℕ) → (rows_at a table ≡ [] → length table < 4096) → other ≡ added table a (row_of payload)
        → ((q : UsageKey) → sum_at q new ≡ total_at q other) → IsKept other new
    kept_added payload room e totals = kept_changed _ _ room e (added_stands other table a payload e k.payloads k.rows) totals

    module _ (place : ℕ) (lt : place < length (rows_at a table)) where
      has_rows : rows_at a table ≡ [] → length table < 4096
      has_rows none = absurd (omega (arith, lt, ap length none))

      pub kept_replaced : (payload : List ℕ) → other ≡ replaced table a place (row_of payload)
          → ((q : UsageKey) → sum_at q new ≡ total_at q other) → IsKept other new
      kept_replaced payload e totals =
          kept_changed _ _ has_rows e (replaced_stands other table a place payload e k.payloads k.rows) totals

      pub kept_removed : other ≡ removed table a place
          → ((q : UsageKey) → sum_at q new ≡ total_at q (removed table a place)) → IsKept other new
      kept_removed e totals =
          kept_changed _ _ has_rows e (removed_stands other table a place e k.payloads k.rows) (λ q. totals q ∙ ap (total_at q) (sym e))

-- ---- a row that was put

-- A row stands at a place of an address, and without it there are the rest.
pub record HasRow (a : Address) (table other : Table Row) (row : Row) (place : ℕ) (rest : List Row) : Type 0 where
  pub within : place < length (rows_at a other)
  pub is : (d : Row) → get_or (rows_at a other) place d ≡ row
  pub totals : (q : UsageKey) → total_at q (with_rows other a (remove (rows_at a other) place)) ≡ total_at q (with_rows table a rest)

has_row : (a : Address) (table other : Table Row) (row : Row) (place : ℕ) (rest rows : List Row) → other ≡ with_rows table a rows
    → (rows ≡ [] → ⊥) → place < length rows → ((d : Row) → get_or rows place d ≡ row) → remove rows place ≡ rest
    → HasRow a table other row place rest
has_row a table other row place rest rows e some lt at gone =
    let there : rows_at a other ≡ rows = ap (rows_at a) e ∙ rows_with a table rows some in
    record {
      within = subst (λ rs. place < length rs) (sym there) lt;
      is = λ d. ap (λ rs. get_or rs place d) there ∙ at d;
      totals = λ q.
          ap (λ rs. total_at q (with_rows other a (remove rs place))) there ∙ ap (λ rs. total_at q (with_rows other a rs)) gone
          ∙ ap (λ t. total_at q (with_rows t a rest)) e ∙ total_again q a table rows rest some;
    }

pub remove_end : {X : Type 0} (rows : List X) (row : X) → remove (rows ++ row ∷ []) (length rows) ≡ rows
remove_end [] row = refl
remove_end (x ∷ xs) row = ap (λ z. x ∷ z) (remove_end xs row)

-- behind the others
pub added_row : (a : Address) (table : Table Row) (row : Row) {other : Table Row} {place : ℕ} → other ≡ added table a row
    → place ≡ length (rows_at a table) → HasRow a table other row place (rows_at a table)
added_row a table row {other} {place} e at =
    let rows = rows_at a table in
    has_row a table other row place rows (rows ++ row ∷ []) e (append_some rows row) (omega (arith, at, length-append rows (row ∷ [])))
    (λ d. ap (λ n. get_or (rows ++ row ∷ []) n d) at ∙ get_or-append_seam rows row [] d)
    (ap (remove (rows ++ row ∷ [])) at ∙ remove_end rows row)

remove_set : (rows : List Row) (i : ℕ) (row : Row) → i < length rows → remove (slice_set rows i row) i ≡ remove rows i
remove_set [] i row lt = absurd (omega arith)
remove_set (x ∷ xs) zero row lt = refl
remove_set (x ∷ xs) (suc i) row lt = ap (λ z. x ∷ z) (remove_set xs i row (omega arith))

-- in the place of another
pub replaced_row : (a : Address) (table : Table Row) (row : Row) (place : ℕ) {other : Table Row} → place < length (rows_at a table)
    → other ≡ replaced table a place row → HasRow a table other row place (remove (rows_at a table) place)
replaced_row a table row place {other} lt e =
    let rows = rows_at a table in
    has_row a table other row place (remove rows place) (slice_set rows place row) e (set_some rows place row lt)
    (omega (arith, lt, length-set rows place row)) (λ d. get_or-set_same rows place row d lt) (remove_set rows place row lt)

-- the sums fit while a row is gone
pub gone_fits : (a : Address) {table : Table Row} (place : ℕ) {old : List (UsageKey × Sum)} (now : List (UsageKey × Sum)) → IsKept table old
    → place < length (rows_at a table)
    → ((q : UsageKey) → sum_at q now ≡ total_at q (removed table a place)) → (q : UsageKey) → IsFitting (2 ^ 100) (sum_at q now)
gone_fits a place now k lt totals = kept_fits (kept_removed k now a _ place lt refl totals) now (λ q. refl)

-- an edit that was made, or wasn't
pub by_result : {T E A B C : Type 0} (r : Result T E) → OnOk r A → OnErr r B → (A → C) → (B → C) → C
by_result (Ok x) a b f g = f a
by_result (Err e) a b f g = g b

pub err_of : {T E P : Type 0} (r : Result T E) → P → OnErr r P
err_of (Ok x) p = tt
err_of (Err e) p = p

pub ok_at : {T E : Type 0} {P : Type 0} (r : Result T E) → P → OnOk r P
ok_at (Ok x) p = p
ok_at (Err e) p = tt

pub err_at : {T E : Type 0} (P : Type 0) (r : Result T E) (e : E) → r ≡ Err e → OnOk r P
err_at P (Ok x) e is = absurd cc
err_at P (Err f) e is = tt
