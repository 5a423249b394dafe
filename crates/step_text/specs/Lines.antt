-- The lines that tell a session step by step: each is one object of JSON (RFC 8259) without white space, its members in the order of
-- their names. Every member is always there, and is `null` where there is nothing. Bytes and addresses are texts of lower case
-- hexadecimal digits.
use Rattle.std.specs.Prelude.{ℕ, List, [], ◌∷◌, ◌++◌, length, map, codes, Option, option_map}
use Rattle.serde_json.specs.Data.{Data, boolean, number, string, object, unsigned}
use Rattle.serde_json.specs.Written.{compact_text}
use Rattle.meter_address.specs.declared.address.Address.{Address}
use Rattle.meter_address.specs.Address.{text_of}
use Rattle.frame_formats.specs.declared.fault.FrameFault.{FrameFault}
use Rattle.line_reader.specs.declared.line.BadLine.{BadLine}
use Rattle.command_queue.specs.Orders.{awaited_id}
use Rattle.afl_fragments.specs.Held.{held}
use Rattle.downlink_maker.specs.Sent.{Sent}
use Rattle.record_text.specs.Lines.{fault_text}
use Rattle.meter_slots.specs.declared.counts.Counts.{Counts}
use Rattle.meter_slots.specs.declared.counts.Ended.{Ended}
use Rattle.meter_slots.specs.declared.entry.Event.{Event}
use Rattle.meter_slots.specs.declared.entry.Event.TheVariants.{Hear, Tick, Put, Cancel, Rekey}
use Rattle.meter_slots.specs.declared.entry.Outcome.{Outcome}
use Rattle.meter_slots.specs.declared.entry.Outcome.TheVariants.{Stored, PartKept, Ticked, Queued, Cancelled, Rekeyed, Refused}
use Rattle.meter_slots.specs.declared.reading.Reading.{Reading}
use Rattle.meter_slots.specs.declared.standing.Served.{Served}
use Rattle.meter_slots.specs.Journal.{Start}
use Rattle.state_file.specs.Written.{block_text}
use Rattle.report_text.specs.Report.{ended_text}
use Rattle.report_text.specs.Readings.{members, list_tree, or_null, hex_tree, payload_of, listed, next_listed, is_full}
use Rattle.report_text.specs.Readings.{fault_behind, more_behind, span_tree}
use Rattle.step_text.specs.Causes.{Value, Number, Bytes, Cause, reason_cause, frame_cause, bad_cause}

-- ---- values

abbrev pub number_tree : ℕ → Data
number_tree n = number (unsigned n)

abbrev pub address_tree : Address → Data
address_tree address = string (text_of address)

abbrev pub value_tree : Value → Data
value_tree (Number n) = number_tree n
value_tree (Bytes bytes) = hex_tree bytes

abbrev pub values_tree : List Value → Data
values_tree values = list_tree (map value_tree values)

-- ---- a step of a meter

abbrev pub event_word : Event → List ℕ
event_word (Hear format at telegram) = codes "hear"
event_word Tick = codes "tick"
event_word (Put payload) = codes "put"
event_word (Cancel id) = codes "cancel"
event_word (Rekey key) = codes "rekey"

-- a downlink: its counter, its frame of format A as it is sent, and the id of the command that it carries
abbrev pub sent_members : Sent → List (List ℕ × Data)
sent_members sent =
    (codes "down", number_tree sent.down)
    ∷ (codes "frame", hex_tree sent.bytes)
    ∷ (codes "id", number_tree sent.id)
    ∷ []

abbrev pub sent_tree : Sent → Data
sent_tree sent = object (members (sent_members sent))

-- A stored message: its counter and its reading, whose records are those that the last readings tell of a payload; the id of the command
-- that it confirms, and the downlink that is sent.
abbrev pub stored_members : ℕ → Address → List ℕ → Option Reading → ℕ → Option ℕ → Option Sent → List ℕ → List (List ℕ × Data)
stored_members line address event reading counter confirmed sent payload =
    let spans = listed payload in
    let next = next_listed payload in
    (codes "address", address_tree address)
    ∷ (codes "at", or_null (option_map (λ r. number_tree r.at) reading))
    ∷ (codes "confirmed", or_null (option_map number_tree confirmed))
    ∷ (codes "counter", number_tree counter)
    ∷ (codes "event", string event)
    ∷ (codes "fault", or_null (option_map (λ fault. string (fault_text fault)) (fault_behind (is_full spans) next)))
    ∷ (codes "kind", string (codes "step"))
    ∷ (codes "line", number_tree line)
    ∷ (codes "more", boolean (more_behind (is_full spans) next))
    ∷ (codes "outcome", string (codes "stored"))
    ∷ (codes "payload", or_null (option_map (λ r. hex_tree r.payload) reading))
    ∷ (codes "records", list_tree (map (span_tree payload) spans))
    ∷ (codes "sent", or_null (option_map sent_tree sent))
    ∷ []

-- an outcome of which there is no more to say than its word
abbrev pub plain_members : ℕ → Address → List ℕ → List ℕ → List (List ℕ × Data)
plain_members line address event outcome =
    (codes "address", address_tree address)
    ∷ (codes "event", string event)
    ∷ (codes "kind", string (codes "step"))
    ∷ (codes "line", number_tree line)
    ∷ (codes "outcome", string outcome)
    ∷ []

-- a tick, with the id of the command that expires
abbrev pub ticked_members : ℕ → Address → List ℕ → Option ℕ → List (List ℕ × Data)
ticked_members line address event expired =
    (codes "address", address_tree address)
    ∷ (codes "event", string event)
    ∷ (codes "expired", or_null (option_map number_tree expired))
    ∷ (codes "kind", string (codes "step"))
    ∷ (codes "line", number_tree line)
    ∷ (codes "outcome", string (codes "ticked"))
    ∷ []

-- a command that was queued or cancelled
abbrev pub command_members : ℕ → Address → List ℕ → List ℕ → ℕ → List (List ℕ × Data)
command_members line address event outcome id =
    (codes "address", address_tree address)
    ∷ (codes "event", string event)
    ∷ (codes "id", number_tree id)
    ∷ (codes "kind", string (codes "step"))
    ∷ (codes "line", number_tree line)
    ∷ (codes "outcome", string outcome)
    ∷ []

abbrev pub refused_members : ℕ → Address → List ℕ → Cause → List (List ℕ × Data)
refused_members line address event cause =
    (codes "address", address_tree address)
    ∷ (codes "event", string event)
    ∷ (codes "kind", string (codes "step"))
    ∷ (codes "line", number_tree line)
    ∷ (codes "outcome", string (codes "refused"))
    ∷ (codes "reason", string cause.word)
    ∷ (codes "values", values_tree cause.values)
    ∷ []

-- an outcome, with the reading of what is stored
abbrev pub outcome_members : ℕ → Address → List ℕ → Option Reading → Outcome → List (List ℕ × Data)
outcome_members line address event reading (Stored counter confirmed sent) =
    stored_members line address event reading counter confirmed sent (payload_of reading)
outcome_members line address event reading PartKept = plain_members line address event (codes "part")
outcome_members line address event reading (Ticked expired) = ticked_members line address event expired
outcome_members line address event reading (Queued id) = command_members line address event (codes "queued") id
outcome_members line address event reading (Cancelled id) = command_members line address event (codes "cancelled") id
outcome_members line address event reading Rekeyed = plain_members line address event (codes "rekeyed")
outcome_members line address event reading (Refused reason) = refused_members line address event (reason_cause reason)

-- what an event of a commissioned meter was answered, in this line of the receiver
abbrev pub step_tree : ℕ → Address → Event → Served → Data
step_tree line address event served =
    object (members (outcome_members line address (event_word event) served.reading served.outcome))

-- ---- the other lines of a receiver

-- an event for an address that isn't commissioned
abbrev pub stranger_members : ℕ → Address → List ℕ → List (List ℕ × Data)
stranger_members line address event =
    (codes "address", address_tree address)
    ∷ (codes "event", string event)
    ∷ (codes "kind", string (codes "stranger"))
    ∷ (codes "line", number_tree line)
    ∷ []

abbrev pub stranger_tree : ℕ → Address → Event → Data
stranger_tree line address event = object (members (stranger_members line address (event_word event)))

-- a line that says nothing
abbrev pub fault_members : List ℕ → ℕ → Cause → List (List ℕ × Data)
fault_members kind line cause =
    (codes "kind", string kind)
    ∷ (codes "line", number_tree line)
    ∷ (codes "reason", string cause.word)
    ∷ (codes "values", values_tree cause.values)
    ∷ []

abbrev pub unframed_tree : ℕ → FrameFault → Data
unframed_tree line fault = object (members (fault_members (codes "unframed") line (frame_cause fault)))

abbrev pub bad_tree : ℕ → BadLine → Data
bad_tree line bad = object (members (fault_members (codes "bad") line (bad_cause bad)))

-- ---- what is known at the end

-- how many fragments are held
abbrev pub holds : Start → ℕ
holds known = length (held known.told)

-- the command for which the window waits
abbrev pub waits : Start → Option ℕ
waits known = awaited_id known.orders.window

-- a meter's lines of the next state, each with its newline
abbrev pub block_members : Start → List (List ℕ × Data)
block_members known =
    (codes "address", address_tree known.address)
    ∷ (codes "block", string (block_text known))
    ∷ (codes "holds", number_tree (holds known))
    ∷ (codes "kind", string (codes "block"))
    ∷ (codes "waits", or_null (option_map number_tree (waits known)))
    ∷ []

abbrev pub block_tree : Start → Data
block_tree known = object (members (block_members known))

-- how many lines were taken, how many of each class, and how the receiver's lines ended
abbrev pub counts_members : Counts → Ended → List (List ℕ × Data)
counts_members counts ended =
    (codes "bad", number_tree counts.bad)
    ∷ (codes "end", string (ended_text ended))
    ∷ (codes "kind", string (codes "counts"))
    ∷ (codes "lines", number_tree counts.lines)
    ∷ (codes "own", number_tree counts.own)
    ∷ (codes "strangers", number_tree counts.strangers)
    ∷ (codes "unframed", number_tree counts.unframed)
    ∷ []

abbrev pub counts_tree : Counts → Ended → Data
counts_tree counts ended = object (members (counts_members counts ended))

-- ---- lines

-- the compact text of a tree, and a newline
unfoldable pub json_line : Data → List ℕ
json_line tree = compact_text tree ++ codes "\n"

abbrev pub step_line : ℕ → Address → Event → Served → List ℕ
step_line line address event served = json_line (step_tree line address event served)

abbrev pub stranger_line : ℕ → Address → Event → List ℕ
stranger_line line address event = json_line (stranger_tree line address event)

abbrev pub unframed_line : ℕ → FrameFault → List ℕ
unframed_line line fault = json_line (unframed_tree line fault)

abbrev pub bad_line : ℕ → BadLine → List ℕ
bad_line line bad = json_line (bad_tree line bad)

abbrev pub block_line : Start → List ℕ
block_line known = json_line (block_tree known)

abbrev pub counts_line : Counts → Ended → List ℕ
counts_line counts ended = json_line (counts_tree counts ended)
