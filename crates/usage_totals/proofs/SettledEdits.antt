-- An edit that was answered is done, or refused for what the rows say.
use Rattle.std.proofs.Common.{◌≡◌, ℕ, List, [], ◌∷◌, ◌++◌, Option, Some, None, Result, Ok, Err, refl, sym, ap, ◌∙◌, subst, inl, inr}
use Rattle.std.specs.Prelude.{IsErr}
use Rattle.std.proofs.lemmas.List.Sums.{fold-append}
use Rattle.outer_io.specs.declared.failures.Memory.{Memory}
use Rattle.usage_totals.specs.declared.fault.TotalsFault.{TotalsFault}
use Rattle.usage_totals.specs.declared.fault.TotalsFault.TheVariants as faults
use Rattle.usage_totals.specs.Amounts.{Row}
use Rattle.usage_totals.specs.Table.{Table}
use Rattle.usage_totals.specs.Edits.{Edit, edited, fault_of, rows_after, StandsFor, IsAnswered}
use Rattle.usage_totals.specs.Texts.{unless}
use Rattle.usage_totals.specs.Answering.{Keeps, DoesEdit, Settles}

-- what is accepted is refused by no fault of the rows
no_fault : (edit : Edit) (old new : Table Row) (found : Option TotalsFault) (edits : List Edit) → IsAnswered edit old (Ok tt) new
    → StandsFor edits old
    → fault_of (rows_after edits) edit ≡ found → found ≡ None
no_fault edit old new None edits a s is = refl
no_fault edit old new (Some fault) edits a s is = cc (a.refused edits fault s is)

-- a refusal that isn't want of memory is for the rows' fault
its_fault : (edit : Edit) (old new : Table Row) (fault : TotalsFault) (edits : List Edit) → IsAnswered edit old (Err fault) new
    → (fault ≡ faults.Memory → ⊥) → StandsFor edits old
    → fault_of (rows_after edits) edit ≡ Some fault
its_fault edit old new fault edits a other s = elim (a.caused edits s) [
  | inl memory ↦ absurd (other memory)
  | inr is ↦ is
]

-- what the rows say of an edit is told, and kept are the rows that it leaves then
settled : (edit : Edit) (old new : Table Row) (found : Option TotalsFault) (result : Result (Option TotalsFault) Memory)
    → ((edits : List Edit) → StandsFor edits old → fault_of (rows_after edits) edit ≡ found)
    → ((table : Table (List ℕ)) → Keeps table old → Keeps (unless found table (edited table edit)) new) → result ≡ Ok found
    → DoesEdit edit old result new
settled edit old new found result there kept is =
    let here : (table : Table (List ℕ)) → Keeps table old → found ≡ fault_of table edit = λ table k.
    sym (subst (λ t. fault_of t edit ≡ found) k.rows (there k.edits k.stands)) in
    subst (λ r. DoesEdit edit old r new) (sym is) (record {
      told = here;
      kept = λ table k. subst (λ f. Keeps (unless f table (edited table edit)) new) (here table k) (kept table k);
      unchanged = tt;
    })

refused_for : (edit : Edit) (old new : Table Row) (fault : TotalsFault) (result : Result (Option TotalsFault) Memory)
    → IsAnswered edit old (Err fault) new → (fault ≡ faults.Memory → ⊥)
    → result ≡ Ok (Some fault) → DoesEdit edit old result new
refused_for edit old new fault result a other =
    settled edit old new (Some fault) result (λ edits s. its_fault edit old new fault edits a other s)
    (λ table k. record { edits = k.edits; stands = subst (StandsFor k.edits) (sym a.unchanged) k.stands; rows = k.rows })

no_memory : (edit : Edit) (old new : Table Row) (result : Result (Option TotalsFault) Memory) → new ≡ old → IsErr result
    → DoesEdit edit old result new
no_memory edit old new (Ok o) same is = absurd cc
no_memory edit old new (Err e) same is = record { told = tt; kept = tt; unchanged = same }

pub edit_settled : (edit : Edit) (old new : Table Row) (answer : Result (Unit {0}) TotalsFault)
    (result : Result (Option TotalsFault) Memory)
    → IsAnswered edit old answer new → Settles answer result → DoesEdit edit old result new
edit_settled edit old new (Ok done) result a is =
    settled edit old new None result (λ edits s. no_fault edit old new _ edits a s refl)
    (λ table k. record {
      edits = k.edits ++ edit ∷ [];
      stands = a.accepted k.edits k.stands;
      rows = fold-append edited [] k.edits (edit ∷ []) ∙ ap (λ t. edited t edit) k.rows;
    }) is
edit_settled edit old new (Err faults.Memory) result a is = no_memory edit old new result a.unchanged is
edit_settled edit old new (Err faults.Meters) result a is = refused_for edit old new faults.Meters result a (λ e. cc) is
edit_settled edit old new (Err faults.Rows) result a is = refused_for edit old new faults.Rows result a (λ e. cc) is
edit_settled edit old new (Err (faults.NoSuch place)) result a is = refused_for edit old new (faults.NoSuch place) result a (λ e. cc) is
