-- The text of the report.
use Rattle.std.specs.Prelude.{ℕ, ◌-◌, List, [], ◌∷◌, ◌++◌, length, drop, reverse, slice_get, codes, Option}
use Rattle.std.specs.List.{flat_map, enumerate_from}
use Rattle.meter_address.specs.declared.commission.Mode.{Mode}
use Rattle.meter_address.specs.declared.commission.Mode.TheVariants.{Five, Seven}
use Rattle.meter_address.specs.declared.address.Address.{Address}
use Rattle.meter_address.specs.Address.{bytes_of}
use Rattle.meter_address.specs.Letters.{letters_of}
use Rattle.command_queue.specs.declared.command.Command.{Command}
use Rattle.command_queue.specs.Orders.{Orders}
use Rattle.stranger_ring.specs.declared.strangers.Heard.{Heard}
use Rattle.stranger_ring.specs.Ring.{ring_of}
use Rattle.meter_slots.specs.declared.counts.Counts.{Counts}
use Rattle.meter_slots.specs.declared.counts.Ended.{Ended}
use Rattle.meter_slots.specs.declared.counts.Ended.TheVariants as ends
use Rattle.meter_slots.specs.declared.entry.Entry.{Entry}
use Rattle.meter_slots.specs.declared.entry.Outcome.{Outcome}
use Rattle.meter_slots.specs.declared.entry.Outcome.TheVariants.{Stored}
use Rattle.meter_slots.specs.declared.reading.Reading.{Reading}
use Rattle.meter_slots.specs.Journal.{SlotView, last_counter, orders, readings}
use Rattle.record_text.specs.RecordText.{records_text}
use Rattle.report_text.specs.declared.lent.MeterLine.{MeterLine}
use Rattle.report_text.specs.declared.lent.ReceiverEnd.{ReceiverEnd}
use Rattle.layer_text.specs.Letters.{letters_text}
use Rattle.paper.specs.Pieces.{optional_text, labelled, labelled_two, labelled_bytes, text_if}
use Rattle.report_text.specs.Outcomes.{outcome_text}

-- ---- a receiver

abbrev pub ended_text : Ended → List ℕ
ended_text ends.End = codes "end"
ended_text ends.Cut = codes "cut"
ended_text ends.ReadFault = codes "readfault"
ended_text ends.TxFault = codes "txfault"
ended_text ends.Memory = codes "memory"

unfoldable pub counts_text : Counts → List ℕ
counts_text n =
    labelled (codes " lines ") n.lines ++ labelled (codes " own ") n.own ++ labelled (codes " strangers ") n.strangers
    ++ labelled (codes " unframed ") n.unframed ++ labelled (codes " bad ") n.bad

-- a receiver's number, its counts, and how it ended
unfoldable pub receiver_text : ℕ × ReceiverEnd → List ℕ
receiver_text r = labelled (codes "receiver ") r.0 ++ counts_text r.1.counts ++ codes " " ++ ended_text r.1.ended ++ codes "\n"

-- ---- a meter

abbrev pub mode_text : Mode → List ℕ
mode_text Five = codes "5"
mode_text Seven = codes "7"

-- the address, the manufacturer's letters and the mode
unfoldable pub commission_text : Address → Mode → List ℕ
commission_text a mode =
    labelled_bytes (codes "meter ") (bytes_of a) ++ codes " " ++ letters_text (letters_of a) ++ codes " mode " ++ mode_text mode

-- the last counter, that of the downlinks, and how many steps and readings there are
unfoldable pub numbers_text : Option ℕ → ℕ → ℕ → ℕ → List ℕ
numbers_text last down steps kept =
    codes " last " ++ optional_text last ++ labelled (codes " down ") down
    ++ labelled (codes " steps ") steps ++ labelled (codes " readings ") kept ++ codes "\n"

-- the line of a meter
abbrev pub meter_line_text : MeterLine → List ℕ
meter_line_text l = commission_text l.address l.mode ++ numbers_text l.last l.down l.steps l.readings

-- a step: its receiver, its line there, and what was answered, with the reading of what is stored
unfoldable pub answered_text : (source line : ℕ) → Outcome → Option Reading → List ℕ
answered_text source line outcome reading =
    labelled_two (codes "step ") source line ++ codes " " ++ outcome_text reading outcome ++ codes "\n"

-- an entry, with the reading of what it stores
abbrev pub step_text : Option Reading → Entry → List ℕ
step_text reading e = answered_text e.source e.line e.outcome reading

-- the readings that are left for later entries: each stored message has one
abbrev pub readings_after : Outcome → List Reading → List Reading
readings_after (Stored counter confirmed sent) kept = drop 1 kept
readings_after _ kept = kept

-- a journal, with the readings of what it stores
abbrev pub steps_text : List Reading → List Entry → List ℕ
steps_text kept [] = []
steps_text kept (e ∷ later) = step_text (slice_get kept 0) e ++ steps_text (readings_after e.outcome kept) later

-- the last reading, if there is one
abbrev pub last_reading : List Reading → Option Reading
last_reading kept = slice_get kept (length kept - 1)

-- the records of the last reading
unfoldable pub last_text : List Reading → List ℕ
last_text kept = text_if (λ r. records_text r.payload) (last_reading kept)

-- a command that waits, and how often it was sent
unfoldable pub pending_text : Command → List ℕ
pending_text c = labelled_two (codes "pending ") c.id c.tries ++ codes "\n"

-- what stands below the line of a meter
unfoldable pub journal_text : List Reading → List Entry → List Command → List ℕ
journal_text kept journal commands = steps_text kept journal ++ last_text kept ++ flat_map pending_text commands

-- the commands after the journal
abbrev pub orders_now : SlotView → Orders
orders_now b = orders b.start (reverse b.journal)

-- what the line of a slot says
abbrev pub line_of : SlotView → MeterLine
line_of b = record {
  address = b.start.address;
  mode = b.start.mode;
  last = last_counter b.start (reverse b.journal);
  down = (orders_now b).down;
  steps = length b.journal;
  readings = length (readings b.start b.journal);
}

unfoldable pub meter_text : SlotView → List ℕ
meter_text b =
    let last = last_counter b.start (reverse b.journal) in
    let kept = readings b.start b.journal in
    commission_text b.start.address b.start.mode
    ++ numbers_text last (orders_now b).down (length b.journal) (length kept)
    ++ journal_text kept b.journal (orders_now b).queue.commands

-- ---- the strangers

unfoldable pub stranger_text : Heard → List ℕ
stranger_text h = labelled_two (codes "stranger ") h.source h.line ++ codes "\n"

unfoldable pub ring_text : Address → List ℕ
ring_text a = labelled_bytes (codes "ring ") (bytes_of a) ++ codes "\n"

unfoldable pub strangers_text : List Heard → List ℕ
strangers_text heard =
    labelled (codes "strangers ") (length heard) ++ codes "\n" ++ flat_map stranger_text heard ++ flat_map ring_text (ring_of heard)

-- the first lines of a report: its head, and its receivers, which are numbered from 1
unfoldable pub head_text : List ReceiverEnd → List ℕ
head_text ends = codes "wmbus-report 1\n" ++ flat_map receiver_text (enumerate_from 1 ends)

-- a report: its receivers, which are numbered from 1, the text of its meters, and its strangers
abbrev pub report_around : List ReceiverEnd → List ℕ → List Heard → List ℕ
report_around ends meters heard =
    codes "wmbus-report 1\n" ++ flat_map receiver_text (enumerate_from 1 ends) ++ meters ++ strangers_text heard ++ codes "end\n"

-- the report of a session, with its slots in the order of the roster
unfoldable pub report_text : List ReceiverEnd → List SlotView → List Heard → List ℕ
report_text ends slots heard = report_around ends (flat_map meter_text slots) heard
