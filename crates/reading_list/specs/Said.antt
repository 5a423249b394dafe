-- What a line of a report says to a list of its readings.
use Rattle.std.specs.Prelude.{ℕ, ◌≡◌, ◌-◌, ◌^◌, ◌||◌, nat_lt, Bool, true, List, [], ◌∷◌, length, codes, Result, Ok, Err, if◌then◌else◌}
use Rattle.std.specs.Option.{ok_or}
use Rattle.std.specs.Result.{result_ok}
use Rattle.hex.specs.Hex.{decode_of}
use Rattle.plain_text.specs.Numbers.{number_of}
use Rattle.plain_text.specs.Parts.{fields_of, is_word}
use Rattle.meter_address.specs.declared.address.Address.{Address}
use Rattle.meter_address.specs.Address.{address_of}
use Rattle.reading_list.specs.declared.said.LineFault.{LineFault}
use Rattle.reading_list.specs.declared.said.LineFault.TheVariants as faults
use Rattle.reading_list.specs.declared.said.StepRead.{StepRead}
use Rattle.reading_list.specs.declared.said.SaidRead.{SaidRead}
use Rattle.reading_list.specs.declared.said.SaidRead.TheVariants as read
use Rattle.reading_list.specs.declared.said.Unread.{Unread}
use Rattle.reading_list.specs.declared.said.Unread.TheVariants as unreads

-- a step that stored a message: where it was heard, its counter or access number, its moment, and its decrypted payload
pub record StoredStep : Type 0 where
  pub receiver : ℕ
  pub line : ℕ
  pub counter : ℕ
  pub moment : ℕ
  pub payload : List ℕ

-- A line begins a meter's part, tells a stored step, ends the report, or is another line of a report, which tells of no reading.
pub data Said : Type 0 where
  meter : Address → Said
  stored : StoredStep → Said
  finished : Said
  other : Said

-- the second step, if the first gave a value
infixl 10 ◌>>=◌
abbrev pub ◌>>=◌ : {A B : Type 0} → Result A LineFault → (A → Result B LineFault) → Result B LineFault
Ok x >>= f = f x
Err e >>= f = Err e

-- a number of 32 bits
abbrev pub number_in : List ℕ → Result ℕ LineFault
number_in text = ok_or (number_of (2 ^ 32 - 1) text) faults.Number

-- a moment, of 64 bits
abbrev pub moment_in : List ℕ → Result ℕ LineFault
moment_in text = ok_or (number_of (2 ^ 64 - 1) text) faults.Number

-- a payload of at most 3,872 bytes in hexadecimal digits, or a dash for an empty one
abbrev pub payload_in : List ℕ → Result (List ℕ) LineFault
payload_in digits =
    if is_word digits (codes "-") then Ok []
    else if nat_lt 7744 (length digits) then Err faults.Payload
    else ok_or (result_ok (decode_of digits)) faults.Payload

-- what stands behind `stored`: counter, moment and payload; a command that is confirmed or sent may stand behind them
unfoldable pub stored_line : ℕ → ℕ → List (List ℕ) → Result Said LineFault
stored_line receiver line (text ∷ at ∷ digits ∷ rest) = do
  counter ← number_in text
  moment ← moment_in at
  payload ← payload_in digits
  Ok (stored (record { receiver = receiver; line = line; counter = counter; moment = moment; payload = payload }))
stored_line receiver line fields = Err faults.Fields

-- what stands behind `step`: its receiver, its line, and what was answered
unfoldable pub step_line : List (List ℕ) → Result Said LineFault
step_line (heard ∷ at ∷ answer ∷ rest) = do
  receiver ← number_in heard
  line ← number_in at
  if is_word answer (codes "stored") then stored_line receiver line rest else Ok other
step_line fields = Err faults.Fields

-- what stands behind `meter`: its address
unfoldable pub meter_line : List (List ℕ) → Result Said LineFault
meter_line [] = Err faults.Address
meter_line (text ∷ rest) = ok_or (address_of text) faults.Address >>= λ address. Ok (meter address)

-- what stands behind `wmbus-report`: the version
unfoldable pub head_line : List (List ℕ) → Result Said LineFault
head_line [] = Err faults.Version
head_line (version ∷ rest) = if is_word version (codes "1") then Ok other else Err faults.Version

-- a line below a meter's steps
abbrev pub is_below_steps : List ℕ → Bool
is_below_steps word =
    if is_word word (codes "record") then true
    else if is_word word (codes "maker") then true
    else if is_word word (codes "fault") then true
    else if is_word word (codes "more") then true
    else is_word word (codes "pending")

-- a line outside the meters' parts
abbrev pub is_outside : List ℕ → Bool
is_outside word =
    if is_word word (codes "receiver") then true
    else if is_word word (codes "strangers") then true
    else if is_word word (codes "stranger") then true
    else is_word word (codes "ring")

-- a line that tells of no reading
abbrev pub is_other : List ℕ → Bool
is_other word = is_below_steps word || is_outside word

-- by the first word of a line
unfoldable pub by_word : List (List ℕ) → Result Said LineFault
by_word [] = Err faults.Word
by_word (word ∷ fields) =
    if is_word word (codes "step") then step_line fields
    else if is_word word (codes "meter") then meter_line fields
    else if is_word word (codes "end") then Ok finished
    else if is_word word (codes "wmbus-report") then head_line fields
    else if is_other word then Ok other
    else Err faults.Word

-- what a line says, or why it can't be read
unfoldable pub said_of : List ℕ → Result Said LineFault
said_of line = if nat_lt 8192 (length line) then Err faults.TooLong else by_word (fields_of line)

-- ---- what the code reads

-- a step as it is read, without where its payload lies
abbrev pub step_read : StepRead → StoredStep
step_read s = record { receiver = s.receiver; line = s.line; counter = s.counter; moment = s.moment; payload = s.payload.items }

abbrev pub said_read : SaidRead → Said
said_read (read.Meter address) = meter address
said_read (read.Stored step) = stored (step_read step)
said_read read.Finished = finished
said_read read.Other = other

-- What is read, seen so, is what is meant, and a fault is the fault. Where there is no memory nothing is said.
abbrev pub Means : {X Y : Type 0} → (X → Y) → Result X Unread → Result Y LineFault → Type 0
Means view (Ok x) meant = meant ≡ Ok (view x)
Means view (Err (unreads.Faulty fault)) meant = meant ≡ Err fault
Means view (Err unreads.Memory) meant = Unit {0}
