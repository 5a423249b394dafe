-- A value that stands for edits, and one edit more.
use Rattle.std.proofs.Common.{◌≡◌, ℕ, List, [], ◌∷◌, ◌++◌, length, Option, Some, None, Err, inr, refl, sym, ap, subst, arith, ◌∙◌, ◌^◌, ◌≤◌, ◌==◌, ◌&&◌, if◌then◌else◌, nat_lt}
use Rattle.std.proofs.lemmas.List.{length-map}
use Rattle.std.proofs.lemmas.Option.{same_Some}
use Rattle.std.proofs.lemmas.List.Sums.{fold-append}
use Rattle.meter_address.specs.declared.address.Address.{Address}
use Rattle.usage_totals.specs.declared.fault.TotalsFault.{TotalsFault}
use Rattle.usage_totals.specs.declared.fault.TotalsFault.TheVariants.{Meters, Rows, NoSuch}
use Rattle.usage_totals.specs.declared.key.UsageKey.{UsageKey}
use Rattle.usage_totals.specs.declared.sums.Sum.{Sum}
use Rattle.usage_totals.specs.Amounts.{Row, row_of, IsWithin}
use Rattle.usage_totals.specs.Sums.{sum_at, total_at}
use Rattle.usage_totals.specs.Table.{Table, rows_at, kept, IsKept}
use Rattle.usage_totals.specs.Faults.{add_fault, place_fault}
use Rattle.usage_totals.specs.Edits.{Edit, edited, fault_of, rows_after, StandsFor, IsAnswered}
use Rattle.usage_totals.proofs.Tables.{kept_rows, total_below}
use Rattle.usage_totals.proofs.Edited.{length_kept}

after_more : (edits : List Edit) (edit : Edit) → rows_after (edits ++ edit ∷ []) ≡ edited (rows_after edits) edit
after_more edits edit = fold-append edited [] edits (edit ∷ [])

pub accepted_by : (edit : Edit) (old new : Table Row) → ((table : Table (List ℕ)) → old ≡ kept table → new ≡ kept (edited table edit))
    → (edits : List Edit) → StandsFor edits old → StandsFor (edits ++ edit ∷ []) new
accepted_by edit old new stands edits s =
    record { rows = stands (rows_after edits) s.rows ∙ ap kept (sym (after_more edits edit)) }

-- ---- the faults are those of the payloads' rows

kept_length : (a : Address) (table : Table (List ℕ)) → length (rows_at a (kept table)) ≡ length (rows_at a table)
kept_length a table = ap length (kept_rows a table) ∙ length-map (rows_at a table) row_of

fault_by : ℕ → ℕ → Option TotalsFault
fault_by rows meters = if rows == 0 && meters == 4096 then Some Meters else (if rows == 65536 then Some Rows else None)

pub add_fault_stands : (a : Address) {found : Option TotalsFault} {inside value : Table Row} → found ≡ add_fault a inside → inside ≡ value
    → (edits : List Edit) → StandsFor edits value → found ≡ add_fault a (rows_after edits)
unfolding fault_by
add_fault_stands a is shown edits s =
    is ∙ ap (add_fault a) (shown ∙ s.rows) ∙ ap (λ n. fault_by n (length (kept (rows_after edits)))) (kept_length a (rows_after edits))
    ∙ ap (λ n. fault_by (length (rows_at a (rows_after edits))) n) (length_kept (rows_after edits))

pub place_fault_stands : (a : Address) (place : ℕ) {found : Option TotalsFault} {inside value : Table Row} → found ≡ place_fault a place inside
    → inside ≡ value → (edits : List Edit) → StandsFor edits value → found ≡ place_fault a place (rows_after edits)
place_fault_stands a place is shown edits s =
    is ∙ ap (place_fault a place) (shown ∙ s.rows)
    ∙ ap (λ n. if nat_lt place n then None else Some (NoSuch place)) (kept_length a (rows_after edits))

-- a fault that is found is that of the rows, and where none is found there is none
pub refused_by : (edit : Edit) (value : Table Row) (found : Option TotalsFault) (fault : TotalsFault)
    → ((edits : List Edit) → StandsFor edits value → found ≡ fault_of (rows_after edits) edit) → found ≡ Some fault
    → IsAnswered edit value (Err fault) value
refused_by edit value found fault there is = record {
  accepted = tt;
  unchanged = refl;
  refused = λ edits other s e. ap Err (same_Some fault other (sym is ∙ there edits s ∙ e));
  caused = λ edits s. inr (sym (there edits s) ∙ is);
}

pub none_there : {A : Type 0} {found there : Option TotalsFault} {fault : TotalsFault} → found ≡ there → found ≡ None → there ≡ Some fault → A
none_there {fault} e is other = let clash : None ≡ Some fault = sym is ∙ e ∙ other in absurd cc

-- the sums that are kept are below 2^93
pub kept_below : (table : Table Row) (sums : List (UsageKey × Sum)) → IsKept table sums → (q : UsageKey)
    → IsWithin (2 ^ 93) (sum_at q sums).amount
kept_below table sums k q =
    let few : length k.payloads ≤ 4096 = omega (arith, k.few, ap length k.rows, length_kept k.payloads) in
    subst (λ (sum : Sum). IsWithin (2 ^ 93) sum.amount) (sym (k.totals q ∙ ap (total_at q) k.rows)) (total_below q k.payloads few)
