-- Statuses: their numbers, what they say, and which one a session's end makes.
use Rattle.std.specs.Prelude.{ℕ, ◌≡◌, ◌⊎◌, ◌+◌, Bool, true, false, List, [], ◌∷◌, Option, Some, None, Result, Ok, Err, IsTrue}
use Rattle.outer_io.specs.Bytes.{AppendsFront}
use Rattle.outer_io.specs.Shown.{Change, SinkShown, WriteFailed}
use Rattle.outer_io.specs.declared.failures.Failed.{Failed}
use Rattle.meter_slots.specs.declared.counts.Ended.{Ended}
use Rattle.meter_slots.specs.declared.counts.Ended.TheVariants as ends
use Rattle.report_text.specs.declared.lent.ReceiverEnd.{ReceiverEnd}
use Rattle.state_file.specs.declared.fault.StateFault.{StateFault}
use Rattle.collector_main.specs.Begin.{status_of}
use Rattle.collector_main.specs.declared.status.Status.{Status}
use Rattle.collector_main.specs.declared.status.Status.TheVariants as statuses

-- the program's exit status
abbrev pub code_of : Status → ℕ
code_of statuses.Done = 0
code_of (statuses.Words fault) = 2
code_of statuses.ReadRoster = 4
code_of (statuses.Roster line cause) = 3
code_of (statuses.State line cause) = 3
code_of (statuses.Read w) = 5
code_of (statuses.Transmit w) = 6
code_of (statuses.Cut w) = 8
code_of (statuses.Write which) = 7
code_of statuses.Memory = 10

-- whether the receivers were heard, so after statuses 0, 5, 6, 7 and 8
abbrev pub was_heard : Status → Bool
was_heard statuses.Done = true
was_heard (statuses.Read w) = true
was_heard (statuses.Transmit w) = true
was_heard (statuses.Cut w) = true
was_heard (statuses.Write which) = true
was_heard _ = false

-- all was done, or there was no memory
abbrev pub IsDone : Status → Type 0
IsDone status = (status ≡ statuses.Done) ⊎ (status ≡ statuses.Memory)

-- a beginning with this first fault is refused for it, unless it can't be read or there is no memory
abbrev pub IsRefused : StateFault → Status → Type 0
IsRefused fault status = (status ≡ status_of fault) ⊎ (status ≡ statuses.ReadRoster) ⊎ (status ≡ statuses.Memory)

-- no receiver was read
abbrev pub IsUnread : Status → Type 0
IsUnread (statuses.Words fault) = Unit {0}
IsUnread statuses.ReadRoster = Unit {0}
IsUnread (statuses.Roster line cause) = Unit {0}
IsUnread (statuses.State line cause) = Unit {0}
IsUnread _ = ⊥

-- ---- words of private contracts

-- the status of a session whose receiver w is the first that didn't end at its source's end
abbrev pub status_at : ℕ → Ended → Status
status_at w ends.End = statuses.Done
status_at w ends.Cut = statuses.Cut w
status_at w ends.ReadFault = statuses.Read w
status_at w ends.TxFault = statuses.Transmit w
status_at w ends.Memory = statuses.Memory

-- the status after a failed write of the report
abbrev pub after_failed_write : Status → Status
after_failed_write statuses.Done = statuses.Write 3
after_failed_write status = status

-- what became of the one receiver, and of the report
abbrev pub IsFinished : Ended → Change SinkShown → Status → Type 0
IsFinished ended report status = (status ≡ status_at 1 ended) ⊎ ((status ≡ after_failed_write (status_at 1 ended)) × WriteFailed report)

-- the status of the first receiver that didn't end at its source's end, where the first one of these has the number w
abbrev pub stop_at : ℕ → Ended → Option Status → Option Status
stop_at w ends.End later = later
stop_at w ended later = Some (status_at w ended)

abbrev pub stop_from : ℕ → List ReceiverEnd → Option Status
stop_from w [] = None
stop_from w (e ∷ later) = stop_at w e.ended (stop_from (w + 1) later)

-- what a write of a text to an empty sink came to
abbrev pub Wrote : Bool → List ℕ → Change SinkShown → Result Unit Failed → Type 0
Wrote tells text sink (Ok _) = IsTrue tells → sink.now.written ≡ text
Wrote tells text sink (Err _) = WriteFailed sink × (IsTrue tells → AppendsFront text [] sink.now.written)

-- the status of the first output that couldn't be written
abbrev pub unwritten : (next readings report : Result Unit Failed) → Status
unwritten (Err _) readings report = statuses.Write 1
unwritten (Ok _) (Err _) report = statuses.Write 2
unwritten (Ok _) (Ok _) (Err _) = statuses.Write 3
unwritten (Ok _) (Ok _) (Ok _) = statuses.Done

-- a receiver's end comes before a failed write
abbrev pub status_after : Option Status → Status → Status
status_after None writes = writes
status_after (Some stop) writes = stop
