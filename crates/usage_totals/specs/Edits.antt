-- Edits of the rows, one after another, and what a value stands for after them.
use Rattle.std.specs.Prelude.{◌≡◌, ◌⊎◌, ℕ, List, [], ◌∷◌, ◌++◌, fold, Option, Some, Result, Err, OnOk, OnErr, IfErr}
use Rattle.meter_address.specs.declared.address.Address.{Address}
use Rattle.usage_totals.specs.Amounts.{Row}
use Rattle.usage_totals.specs.declared.fault.TotalsFault.{TotalsFault}
use Rattle.usage_totals.specs.declared.fault.TotalsFault.TheVariants.{Memory}
use Rattle.usage_totals.specs.Table.{Table, added, replaced, removed, kept}
use Rattle.usage_totals.specs.Faults.{add_fault, place_fault}

-- an edit of an address's rows: a payload's row comes last, or stands in the place of one, or a row goes
pub data Edit : Type 0 where
  addition : Address → List ℕ → Edit
  replacement : Address → ℕ → List ℕ → Edit
  removal : Address → ℕ → Edit

-- the rows after an edit
abbrev pub edited : Table (List ℕ) → Edit → Table (List ℕ)
edited table (addition address payload) = added table address payload
edited table (replacement address place payload) = replaced table address place payload
edited table (removal address place) = removed table address place

-- why an edit of these rows is refused, if it is
abbrev pub fault_of : Table (List ℕ) → Edit → Option TotalsFault
fault_of table (addition address payload) = add_fault address table
fault_of table (replacement address place payload) = place_fault address place table
fault_of table (removal address place) = place_fault address place table

-- the rows that edits leave, one after another
abbrev pub rows_after : List Edit → Table (List ℕ)
rows_after edits = fold edited [] edits

-- A value stands for the edits that were accepted: it keeps the amounts of the rows that they leave.
pub record StandsFor (edits : List Edit) (value : Table Row) : Type 0 where
  pub rows : value ≡ kept (rows_after edits)

-- An edit is accepted, or it is refused and nothing has changed: for a fault of the rows, or there was no memory.
pub record IsAnswered (edit : Edit) (old : Table Row) (answer : Result (Unit {0}) TotalsFault) (new : Table Row) : Type 0 where
  pub accepted : OnOk answer ((edits : List Edit) → StandsFor edits old → StandsFor (edits ++ edit ∷ []) new)
  pub unchanged : OnErr answer (new ≡ old)
  pub refused : (edits : List Edit) (fault : TotalsFault) → StandsFor edits old → fault_of (rows_after edits) edit ≡ Some fault
      → answer ≡ Err fault
  pub caused : (edits : List Edit) → StandsFor edits old
      → IfErr answer (λ fault. (fault ≡ Memory) ⊎ (fault_of (rows_after edits) edit ≡ Some fault))
