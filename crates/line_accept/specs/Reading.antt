-- Words of private contracts: what reading the text of senders answers.
use Rattle.std.specs.Prelude.{◌≡◌, Result, Err}
use Rattle.line_accept.specs.Senders.{Sender}
use Rattle.line_accept.specs.declared.fault.SendersFault.{SendersFault}
use Rattle.line_accept.specs.declared.fault.SendersFault.TheVariants.{Line, Memory}
use Rattle.line_accept.specs.declared.reader.SenderRead.{SenderRead}

-- a sender as it is read, without where its bytes lie
abbrev pub sender_read : SenderRead → Sender
sender_read s = record { name = s.name.now; fence = s.fence }

-- this is refused for the cause in a line, unless there is no memory
abbrev pub IsFaultOf : {A : Type 0} → Result A SendersFault → SendersFault → Type 0
IsFaultOf r (Line line cause) = r ≡ Err (Line line cause)
IsFaultOf r Memory = Unit {0}
