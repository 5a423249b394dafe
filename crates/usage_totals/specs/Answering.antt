-- Words of private contracts: a line that is answered.
use Rattle.std.specs.Prelude.{ℕ, ◌≡◌, Bool, List, [], Option, Some, None, Result, Ok, Err, IsErr, IfOk, OnOk, OnErr}
use Rattle.paper.specs.InMemory as sheets
use Rattle.paper.specs.InMemory.{Kept}
use Rattle.paper.specs.Puts.{Puts}
use Rattle.outer_io.specs.declared.failures.Memory.{Memory}
use Rattle.usage_totals.specs.declared.fault.TotalsFault.{TotalsFault}
use Rattle.usage_totals.specs.declared.fault.TotalsFault.TheVariants as faults
use Rattle.usage_totals.specs.Amounts.{Row}
use Rattle.usage_totals.specs.Table.{Table}
use Rattle.usage_totals.specs.Edits.{Edit, edited, fault_of, rows_after, StandsFor}
use Rattle.usage_totals.specs.declared.answer.Answerer.{Answerer}
use Rattle.usage_totals.specs.Requests.{Request, request_of}
use Rattle.usage_totals.specs.Texts.{unless, answer_text, rows_by}

-- The value keeps the amounts of these rows: it stands for edits that leave them.
pub record Keeps (table : Table (List ℕ)) (value : Table Row) : Type 0 where
  pub edits : List Edit
  pub stands : StandsFor edits value
  pub rows : rows_after edits ≡ table

-- An edit is done unless the rows refuse it, and answered by why they do; or there is no memory, and nothing has changed.
pub record DoesEdit (edit : Edit) (old : Table Row) (answer : Result (Option TotalsFault) Memory) (new : Table Row) : Type 0 where
  pub told : IfOk answer (λ fault. (table : Table (List ℕ)) → Keeps table old → fault ≡ fault_of table edit)
  pub kept : OnOk answer ((table : Table (List ℕ)) → Keeps table old → Keeps (unless (fault_of table edit) table (edited table edit)) new)
  pub unchanged : OnErr answer (new ≡ old)

-- An edit's answer comes to why the rows refuse it, if they do, or to want of memory.
abbrev pub Settles : Result (Unit {0}) TotalsFault → Result (Option TotalsFault) Memory → Type 0
Settles (Ok done) settled = settled ≡ Ok None
Settles (Err faults.Memory) settled = IsErr settled
Settles (Err fault) settled = settled ≡ Ok (Some fault)

-- A request is answered by this text over the rows that the first value keeps, and those behind it are what the second one keeps.
pub record Answers (addressed : Bool) (request : Option Request) (old : Table Row) (text : List ℕ) (new : Table Row) : Type 0 where
  pub text_is : (table : Table (List ℕ)) → Keeps table old → text ≡ answer_text addressed table request
  pub rows : (table : Table (List ℕ)) → Keeps table old → Keeps (rows_by table request) new

-- its text was put on a sheet
pub record PutsAnswer (addressed : Bool) (request : Option Request) (old new : Table Row) (sheet sheet' : Kept) : Type 0 where
  pub text : List ℕ
  pub answers : Answers addressed request old text new
  pub puts : Puts sheets.Keeps sheet text sheet'

-- a line is answered, and nothing is noted
pub record AnswersLine (old : Answerer) (number : ℕ) (line text note : List ℕ) (new : Answerer) : Type 0 where
  pub answers : Answers old.addressed (request_of line) old.totals text new.totals
  pub same : new.addressed ≡ old.addressed
  pub note_is : note ≡ []
