-- What contracts see of an opened message, and of the buffer in which it was opened or refused.
use Rattle.std.specs.Prelude.{◌≡◌, ◌≤◌, ◌↔◌, List, [], ℕ, length, take, drop, Result, Ok, Err, IfOk, IfErr, OnOk, OnErr}
use Rattle.message_check.specs.declared.opening.Opened.{Opened}
use Rattle.message_check.specs.declared.refusal.Reason.{Reason}
use Rattle.message_check.specs.Opening.{Found}

-- what is found, where the message has become these bytes
abbrev pub found_in : List ℕ → Opened → Found
found_in bytes o = record { counter = o.counter; access = o.access; payload = drop o.from bytes }

-- the answer, where the message has become these bytes, is what is said of the message
pub record Says (new : List ℕ) (answer : Result Opened Reason) (said : Result Found Reason) : Type 0 where
  pub opened : IfOk answer (λ o. said ≡ Ok (found_in new o))
  pub refused : IfErr answer (λ r. said ≡ Err r)

-- the answer on a message in a buffer, which was old and is new. An opened message means what it says, and in the buffer its payload
-- stands behind what stood in front of it before. A refused one has the cause that its reason names, and nothing is left of it
pub record Opens (old new : List ℕ) (answer : Result Opened Reason) (Means : Found → Type 0) (Causes : Reason → Type 0) : Type 0 where
  pub means : IfOk answer (λ o. Means (found_in new o))
  pub within : IfOk answer (λ o. o.from ≤ length new)
  pub front : IfOk answer (λ o. take o.from new ≡ take o.from old)
  pub same_len : OnOk answer (length new ≡ length old)
  pub cause : (r : Reason) → (answer ≡ Err r) ↔ Causes r
  pub emptied : OnErr answer (new ≡ [])
