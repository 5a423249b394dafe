-- Words of private contracts: the numbers of a line fit 64 bits, so that they are read back as they are.
use Rattle.std.specs.Prelude.{ℕ, ◌<◌, ◌^◌, ⊤, List, [], ◌∷◌, Option, IfSome}
use Rattle.lists.specs.Each.{Each}
use Rattle.meter_address.specs.Address.{bytes_of}
use Rattle.downlink_maker.specs.Sent.{Sent}
use Rattle.meter_slots.specs.declared.entry.Outcome.{Outcome}
use Rattle.meter_slots.specs.declared.entry.Outcome.TheVariants.{Stored, PartKept, Ticked, Queued, Cancelled, Rekeyed, Refused}
use Rattle.meter_slots.specs.declared.reading.Reading.{Reading}
use Rattle.step_text.specs.declared.causes.Values.{Values}
use Rattle.step_text.specs.declared.causes.Values.TheVariants as values
use Rattle.step_text.specs.Causes.{Value, Number, Bytes, reason_cause}

abbrev pub IsSmall : ℕ → Type 0
IsSmall n = n < 2 ^ 64

abbrev pub IsSmallValue : Value → Type 0
IsSmallValue (Number n) = IsSmall n
IsSmallValue (Bytes bytes) = ⊤

abbrev pub AreSmall : List Value → Type 0
AreSmall values = Each IsSmallValue values

abbrev pub IsSmallSent : Sent → Type 0
IsSmallSent sent = IsSmall sent.down × IsSmall sent.id

-- the numbers of a stored message
pub record IsSmallStored (number : ℕ) (confirms : Option ℕ) (downlink : Option Sent) (reading : Option Reading) : Type 0 where
  pub counter : IsSmall number
  pub confirmed : IfSome confirms IsSmall
  pub sent : IfSome downlink IsSmallSent
  pub at : IfSome reading (λ r. IsSmall r.at)

abbrev pub IsSmallOutcome : Option Reading → Outcome → Type 0
IsSmallOutcome reading (Stored counter confirmed sent) = IsSmallStored counter confirmed sent reading
IsSmallOutcome reading PartKept = ⊤
IsSmallOutcome reading (Ticked expired) = IfSome expired IsSmall
IsSmallOutcome reading (Queued id) = IsSmall id
IsSmallOutcome reading (Cancelled id) = IsSmall id
IsSmallOutcome reading Rekeyed = ⊤
IsSmallOutcome reading (Refused reason) = AreSmall (reason_cause reason).values

-- the values of a cause, as the code has them
abbrev pub values_of : Values → List Value
values_of values.Nothing = []
values_of (values.One n) = Number n ∷ []
values_of (values.Two n m) = Number n ∷ Number m ∷ []
values_of (values.Byte byte) = Bytes (byte ∷ []) ∷ []
values_of (values.Pair two) = Bytes two ∷ []
values_of (values.Name address) = Bytes (bytes_of address) ∷ []
