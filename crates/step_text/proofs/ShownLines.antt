-- The tree of each line is shown by its text, and read back.
use Rattle.std.proofs.Common.{◌≡◌, ℕ, ◌≤◌, List, [], ◌∷◌, Option, Some, option_map, subst, arith}
use Rattle.std.specs.Prelude.{IfSome}
use Rattle.std.specs.List.{AllByRecursion}
use Rattle.serde_json.specs.Data.{object}
use Rattle.serde_json.specs.Read.{read}
use Rattle.serde_json.specs.Written.{compact_text}
use Rattle.downlink_maker.specs.Sent.{Sent}
use Rattle.frame_formats.specs.declared.fault.FrameFault.{FrameFault}
use Rattle.line_reader.specs.declared.line.BadLine.{BadLine}
use Rattle.meter_address.specs.declared.address.Address.{Address}
use Rattle.meter_slots.specs.declared.counts.Counts.{Counts}
use Rattle.meter_slots.specs.declared.counts.Ended.{Ended}
use Rattle.meter_slots.specs.declared.entry.Event.{Event}
use Rattle.meter_slots.specs.declared.entry.Outcome.{Outcome}
use Rattle.meter_slots.specs.declared.entry.Outcome.TheVariants.{Stored, Ticked, Queued, Cancelled, Refused}
use Rattle.meter_slots.specs.declared.reading.Reading.{Reading}
use Rattle.meter_slots.specs.declared.standing.Served.{Served}
use Rattle.meter_slots.specs.Journal.{Start}
use Rattle.report_text.specs.Readings.{members, or_null, payload_of}
use Rattle.report_text.proofs.ShownTrees.{IsShown, ◌⟫◌, none_left, object_shown, list_shown, string_shown, number_shown, boolean_shown}
use Rattle.report_text.proofs.ShownTrees.{option_shown, with_more, read_back}
use Rattle.report_text.proofs.ShownReadings.{listed_shown}
use Rattle.step_text.specs.Causes.{Value, Number, Bytes, Cause, reason_cause, frame_cause, bad_cause}
use Rattle.step_text.specs.Lines.{number_tree, value_tree, values_tree, event_word, sent_members, sent_tree, stored_members, plain_members}
use Rattle.step_text.specs.Lines.{ticked_members, command_members, refused_members, outcome_members, step_tree, stranger_members, stranger_tree}
use Rattle.step_text.specs.Lines.{fault_members, unframed_tree, bad_tree, holds, waits, block_members, block_tree, counts_members, counts_tree}
use Rattle.step_text.specs.Numbers.{IsSmall, IsSmallValue, AreSmall, IsSmallSent, IsSmallStored, IsSmallOutcome}

-- what holds of a value where there is one holds of the value that is there
held_by : {X : Type 0} (P : X → Type 0) (o : Option X) (x : X) → IfSome o P → o ≡ Some x → P x
held_by P o x h is = subst (λ p. IfSome p P) is h

number_if : {levels : ℕ} (o : Option ℕ) → IfSome o IsSmall → IsShown levels (or_null (option_map number_tree o))
number_if o h = option_shown number_tree o (λ n is. number_shown n (held_by IsSmall o n h is))

value_shown : (v : Value) → IsSmallValue v → IsShown 0 (value_tree v)
value_shown (Number n) h = number_shown n h
value_shown (Bytes bytes) h = string_shown

each_shown : (values : List Value) → AreSmall values → AllByRecursion (λ v. IsShown 0 (value_tree v)) values
each_shown [] h = tt
each_shown (v ∷ values) h = (value_shown v h.0, each_shown values h.1)

values_shown : (values : List Value) → AreSmall values → IsShown 1 (values_tree values)
values_shown values h = list_shown value_tree values (each_shown values h)

-- ---- steps

sent_shown : (sent : Sent) → IsSmallSent sent → IsShown 1 (sent_tree sent)
sent_shown sent h = object_shown (members (sent_members sent))
    (number_shown sent.down h.0 ⟫ string_shown ⟫ number_shown sent.id h.1 ⟫ none_left)

stored_shown : (line : ℕ) (address : Address) (event : List ℕ) (reading : Option Reading) (counter : ℕ) (confirmed : Option ℕ)
    (sent : Option Sent) (payload : List ℕ) → IsSmall line → IsSmallStored counter confirmed sent reading
    → IsShown 3 (object (members (stored_members line address event reading counter confirmed sent payload)))
stored_shown line address event reading counter confirmed sent payload small h =
    let at : IsShown 2 (or_null (option_map (λ r. number_tree r.at) reading)) =
    option_shown (λ r. number_tree r.at) reading (λ r is. number_shown r.at (held_by (λ r. IsSmall r.at) reading r h.at is)) in
    let last : IsShown 2 (or_null (option_map sent_tree sent)) =
    option_shown sent_tree sent (λ s is. with_more (omega arith) (sent_shown s (held_by IsSmallSent sent s h.sent is))) in
    object_shown (members (stored_members line address event reading counter confirmed sent payload))
    (search (◌⟫◌, none_left, string_shown, number_shown, number_if, boolean_shown, option_shown, listed_shown) depth 18)

plain_shown : (line : ℕ) (address : Address) (event outcome : List ℕ) → IsSmall line
    → IsShown 3 (object (members (plain_members line address event outcome)))
plain_shown line address event outcome small = object_shown (members (plain_members line address event outcome))
    (string_shown ⟫ string_shown ⟫ string_shown ⟫ number_shown line small ⟫ string_shown ⟫ none_left)

command_shown : (line : ℕ) (address : Address) (event outcome : List ℕ) (id : ℕ) → IsSmall line → IsSmall id
    → IsShown 3 (object (members (command_members line address event outcome id)))
command_shown line address event outcome id small h = object_shown (members (command_members line address event outcome id))
    (string_shown ⟫ string_shown ⟫ number_shown id h ⟫ string_shown ⟫ number_shown line small ⟫ string_shown ⟫ none_left)

outcome_shown : (line : ℕ) (address : Address) (event : List ℕ) (reading : Option Reading) (outcome : Outcome) → IsSmall line
    → IsSmallOutcome reading outcome → IsShown 3 (object (members (outcome_members line address event reading outcome)))
outcome_shown line address event reading (Stored counter confirmed sent) small h =
    stored_shown line address event reading counter confirmed sent (payload_of reading) small h
outcome_shown line address event reading (Ticked expired) small h = object_shown (members (ticked_members line address event expired))
    (string_shown ⟫ string_shown ⟫ number_if expired h ⟫ string_shown ⟫ number_shown line small ⟫ string_shown ⟫ none_left)
outcome_shown line address event reading (Queued id) small h = command_shown line address event _ id small h
outcome_shown line address event reading (Cancelled id) small h = command_shown line address event _ id small h
outcome_shown line address event reading (Refused reason) small h =
    object_shown (members (refused_members line address event (reason_cause reason)))
    (string_shown ⟫ string_shown ⟫ string_shown ⟫ number_shown line small ⟫ string_shown ⟫ string_shown
    ⟫ with_more (omega arith) (values_shown (reason_cause reason).values h) ⟫ none_left)
outcome_shown line address event reading _ small h = plain_shown line address event _ small

pub step_back : (line : ℕ) (address : Address) (event : Event) (served : Served) → IsSmall line
    → IsSmallOutcome served.reading served.outcome
    → read (compact_text (step_tree line address event served)) ≡ Some (step_tree line address event served)
step_back line address event served small h =
    read_back _ (with_more (omega arith) (outcome_shown line address (event_word event) served.reading served.outcome small h))

-- ---- other lines

pub stranger_back : (line : ℕ) (address : Address) (event : Event) → IsSmall line
    → read (compact_text (stranger_tree line address event)) ≡ Some (stranger_tree line address event)
stranger_back line address event small = read_back _ (object_shown (members (stranger_members line address (event_word event)))
    (string_shown ⟫ string_shown ⟫ string_shown ⟫ number_shown line small ⟫ none_left))

fault_shown : (kind : List ℕ) (line : ℕ) (cause : Cause) → IsSmall line → AreSmall cause.values
    → IsShown 2 (object (members (fault_members kind line cause)))
fault_shown kind line cause small h = object_shown (members (fault_members kind line cause))
    (string_shown ⟫ number_shown line small ⟫ string_shown ⟫ values_shown cause.values h ⟫ none_left)

pub unframed_back : (line : ℕ) (fault : FrameFault) → IsSmall line → AreSmall (frame_cause fault).values
    → read (compact_text (unframed_tree line fault)) ≡ Some (unframed_tree line fault)
unframed_back line fault small h = read_back _ (with_more (omega arith) (fault_shown _ line (frame_cause fault) small h))

pub bad_back : (line : ℕ) (bad : BadLine) → IsSmall line → AreSmall (bad_cause bad).values
    → read (compact_text (bad_tree line bad)) ≡ Some (bad_tree line bad)
bad_back line bad small h = read_back _ (with_more (omega arith) (fault_shown _ line (bad_cause bad) small h))

-- ---- what is known at the end

pub block_back : (known : Start) → holds known ≤ 16 → IfSome (waits known) IsSmall
    → read (compact_text (block_tree known)) ≡ Some (block_tree known)
block_back known few awaited = read_back _ (object_shown (members (block_members known))
    (string_shown ⟫ string_shown ⟫ number_shown (holds known) (omega (arith, few)) ⟫ string_shown
    ⟫ number_if (waits known) awaited ⟫ none_left))

pub counts_back : (counts : Counts) (ended : Ended) → IsSmall counts.bad → IsSmall counts.lines → IsSmall counts.own
    → IsSmall counts.strangers → IsSmall counts.unframed
    → read (compact_text (counts_tree counts ended)) ≡ Some (counts_tree counts ended)
counts_back counts ended bad lines own strangers unframed = read_back _ (object_shown (members (counts_members counts ended))
    (number_shown counts.bad bad ⟫ string_shown ⟫ string_shown ⟫ number_shown counts.lines lines ⟫ number_shown counts.own own
    ⟫ number_shown counts.strangers strangers ⟫ number_shown counts.unframed unframed ⟫ none_left))
