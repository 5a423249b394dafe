-- The grammar of the text of senders, with its first fault.
use Rattle.std.specs.Prelude.{ℕ, ◌+◌, nat_lt, List, [], ◌∷◌, ◌++◌, length, codes, is_some, Result, Ok, Err, if◌then◌else◌}
use Rattle.std.specs.Option.{ok_or}
use Rattle.std.specs.Str.Lines.{lines}
use Rattle.lists.specs.Steps.{◌>>=◌}
use Rattle.plain_text.specs.Parts.{fields_of, is_word}
use Rattle.roster_file.specs.Roster.{entries_from}
use Rattle.line_accept.specs.Senders.{Sender, fence_of}
use Rattle.line_accept.specs.declared.fault.SendersCause.{SendersCause}
use Rattle.line_accept.specs.declared.fault.SendersCause.TheVariants as causes
use Rattle.line_accept.specs.declared.fault.SendersFault.{SendersFault}
use Rattle.line_accept.specs.declared.fault.SendersFault.TheVariants.{Line}
use Rattle.line_accept.specs.Names.{is_name}
use Rattle.line_accept.specs.Numbers.{epoch_in, number_in}

-- ---- a line

abbrev pub name_in : List ℕ → Result (List ℕ) SendersCause
name_in text = if is_name text then Ok text else Err causes.Name

-- a sender's name, and the epoch and the number of its fence, or the first of the three that is wrong
unfoldable pub sender_in : List (List ℕ) → Result Sender SendersCause
sender_in (n ∷ e ∷ k ∷ []) = do
  name ← name_in n
  epoch ← ok_or (epoch_in e) causes.Epoch
  number ← ok_or (number_in k) causes.Number
  Ok (record { name = name; fence = record { epoch = epoch; number = number } })
sender_in fields = Err causes.Fields

abbrev pub sender_of_kind : List (List ℕ) → Result Sender SendersCause
sender_of_kind [] = Err causes.Kind
sender_of_kind (kind ∷ fields) = if is_word kind (codes "sender") then sender_in fields else Err causes.Kind

-- the sender of a line
abbrev pub sender_of : List ℕ → Result Sender SendersCause
sender_of line = sender_of_kind (fields_of line)

-- the senders with one more, whose name is new
abbrev pub with_sender : List Sender → Sender → Result (List Sender) SendersCause
with_sender senders s = if is_some (fence_of s.name senders) then Err causes.Same else Ok (senders ++ s ∷ [])

-- ---- a text

abbrev pub at_line : {A : Type 0} → ℕ → Result A SendersCause → Result A SendersFault
at_line n (Ok x) = Ok x
at_line n (Err cause) = Err (Line n cause)

-- the senders with that of one more line
abbrev pub with_line : List Sender → (ℕ × List ℕ) → Result (List Sender) SendersFault
with_line senders e = at_line e.0 (sender_of e.1 >>= with_sender senders)

-- nothing stands behind the end
abbrev pub ended : List Sender → List (ℕ × List ℕ) → Result (List Sender) SendersFault
ended senders [] = Ok senders
ended senders (e ∷ entries) = Err (Line e.0 causes.Behind)

-- the senders of lines up to the end, behind those so far; `end` is the number after that of the last line
unfoldable pub senders_from : List Sender → List (ℕ × List ℕ) → ℕ → Result (List Sender) SendersFault
senders_from senders [] end = Err (Line end causes.Missing)
senders_from senders (e ∷ entries) end =
    if is_word e.1 (codes "end") then ended senders entries else with_line senders e >>= λ more. senders_from more entries end

-- the head, and what follows it
unfoldable pub headed : List (ℕ × List ℕ) → ℕ → Result (List Sender) SendersFault
headed [] end = Err (Line end causes.Missing)
headed (e ∷ entries) end = if is_word e.1 (codes "wmbus-senders 1") then senders_from [] entries end else Err (Line e.0 causes.Head)

-- the senders of a text, or its first fault
unfoldable pub senders_of : List ℕ → Result (List Sender) SendersFault
senders_of bytes =
    if nat_lt 16777216 (length bytes) then Err (Line 0 causes.TooLong)
    else headed (entries_from 1 (lines bytes)) (length (lines bytes) + 1)
