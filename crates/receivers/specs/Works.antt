-- What the lines of a receiver did.
use Rattle.std.specs.Prelude.{◌≡◌, ◌≤◌, ℕ, Bool, true, List, [], ◌∷◌, ◌++◌, map, codes, Option, Some, None, is_some, Result, Ok, Err, OnErr, IsTrue, length}
use Rattle.std.specs.List.{flat_map, enumerate_from}
use Rattle.outer_io.specs.Bytes.{AppendsFront}
use Rattle.outer_io.specs.declared.failures.Failed.{Failed}
use Rattle.hex.specs.Hex.{encode_lower}
use Rattle.meter_address.specs.declared.address.Address.{Address}
use Rattle.meter_slots.specs.declared.counts.Ended.{Ended}
use Rattle.meter_slots.specs.declared.counts.Ended.TheVariants as ends
use Rattle.meter_slots.specs.declared.entry.Event.{Event}
use Rattle.meter_slots.specs.declared.entry.Outcome.{Outcome}
use Rattle.meter_slots.specs.declared.entry.Outcome.TheVariants.{Stored}
use Rattle.downlink_maker.specs.Sent.{Sent}
use Rattle.receivers.specs.declared.told.Told.{Told}
use Rattle.receivers.specs.declared.told.Told.TheVariants as told
use Rattle.receivers.specs.Classes.{OwnLine, StrangeLine, own_lines, strange_lines}
use Rattle.receivers.specs.Passes.{Answered, Crew, HaveAnswered, HasNoted}
use Rattle.receivers.specs.Run.{ReceiverRun, hearing_of, HasHeard}
use Rattle.outer_io.specs.Shown.{Change, SinkShown, WriteFailed}

-- ---- downlinks

abbrev pub sent_in : Outcome → Option Sent
sent_in (Stored counter confirmed sent) = sent
sent_in _ = None

-- the line of a downlink: its frame in hexadecimal
unfoldable pub downlink_line : List ℕ → List ℕ
downlink_line frame = codes "D " ++ encode_lower frame ++ codes "\n"

abbrev pub sent_line : Option Sent → List ℕ
sent_line None = []
sent_line (Some sent) = downlink_line sent.bytes

-- the line of the downlink that an answer gives, if it gives one
abbrev pub sent_text : Answered → List ℕ
sent_text d = sent_line (sent_in d.outcome)

-- the lines of the downlinks of some answers, in order
abbrev pub tx_text : List Answered → List ℕ
tx_text did = flat_map sent_text did

-- ---- what a receiver did

-- what a receiver heard, and what its own lines were answered, in their order
pub record Part : Type 0 where
  pub heard : List Told
  pub did : List Answered

-- The downlink of the last line heard couldn't be written: those before it were, and of its line bytes may be missing at the end, at
-- most all of them.
pub record LacksItsEnd (run : ReceiverRun) (p : Part) : Type 0 where
  pub sent : List Answered
  pub last : Answered
  pub did_is : p.did ≡ sent ++ last ∷ []
  pub last_line : last.own.line ≡ length p.heard
  pub gives_one : is_some (sent_in last.outcome) ≡ true
  pub written : IsTrue run.tx_tells → AppendsFront (sent_text last) (run.tx.before.written ++ tx_text sent) run.tx.now.written

-- the sink has the downlinks of all answers, in order; after a fault there all but the end of the last one
abbrev pub HasSent : Ended → ReceiverRun → Part → Type 0
HasSent ends.TxFault run p = LacksItsEnd run p
HasSent _ run p = IsTrue run.tx_tells → run.tx.now.written ≡ run.tx.before.written ++ tx_text p.did

-- a receiver's run: it ended, with its cause, after hearing these lines, and sent the downlinks of these answers
pub record HasRun (directory : List Address) (run : ReceiverRun) (p : Part) : Type 0 where
  pub how : Ended
  pub ended : run.ended ≡ Some how
  pub has_heard : HasHeard directory (hearing_of run how) p.heard
  pub has_sent : HasSent how run p
  pub tx_fault : how ≡ ends.TxFault → WriteFailed run.tx
  pub tx_later : run.tx.before.faults ≤ run.tx.now.faults

module _ {O P : Type 0} (directory : List Address) where
  -- each own line among these was answered in its order, which the passes of the slots show, and the strangers' lines were noted
  pub record Works (lines : List (ℕ × Told)) (did : List Answered) (before after : Crew O P) : Type 0 where
    pub asked : map (λ d. d.own) did ≡ own_lines directory lines
    pub answered : HaveAnswered did before.passes after.passes
    pub noted : HasNoted (strange_lines directory lines) before.stranger_pass after.stranger_pass

  -- a receiver's run, and what its passes made in it: just its own lines, in order, and the strangers' lines
  pub record HasWorked (run : ReceiverRun) (before after : Crew O P) : Type 0 where
    pub part : Part
    pub ran : HasRun directory run part
    pub works : Works (enumerate_from 1 part.heard) part.did before after

-- ---- words of private contracts

-- the answer of a line, where there was memory for it
abbrev pub answer_by : {E : Type 0} → OwnLine → Result Outcome E → List Answered
answer_by own (Ok outcome) = record { own = own; outcome = outcome } ∷ []
answer_by own (Err e) = []

-- the stranger's line, where there was memory for it
abbrev pub note_if : {E : Type 0} → StrangeLine → Result Unit E → List StrangeLine
note_if line (Ok _) = line ∷ []
note_if line (Err e) = []

-- the downlink of an outcome was written, or a front of its line
abbrev pub Sends : Bool → Result Unit Failed → Outcome → List ℕ → List ℕ → Type 0
Sends tells (Ok _) outcome old new = IsTrue tells → new ≡ old ++ sent_line (sent_in outcome)
Sends tells (Err e) outcome old new =
    (is_some (sent_in outcome) ≡ true) × (IsTrue tells → AppendsFront (sent_line (sent_in outcome)) old new)

-- the same of the answers of one line
abbrev pub SendsAll : Bool → Result Unit Failed → List Answered → List ℕ → List ℕ → Type 0
SendsAll tells (Ok _) did old new = IsTrue tells → new ≡ old ++ tx_text did
SendsAll tells (Err e) did old new =
    (last : Answered) × (did ≡ last ∷ []) × (is_some (sent_in last.outcome) ≡ true) × (IsTrue tells → AppendsFront (sent_text last) old new)

module _ {O P : Type 0} (directory : List Address) where
  -- what one step did, and what became of its downlink
  pub record MakesShared (line : ℕ) (address : Address) (event : Event) (sent : Result Unit Failed) (before after : Crew O P)
      (tells : Bool) (tx : Change SinkShown) : Type 0 where
    pub did : List Answered
    pub works : Works directory ((line, told.Event address event) ∷ []) did before after
    pub sent_so : SendsAll tells sent did tx.before.written tx.now.written
    pub tx_fault : OnErr sent (WriteFailed tx)
    pub tx_later : tx.before.faults ≤ tx.now.faults
