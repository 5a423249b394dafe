-- What is told of a session of one receiver: a line of each of its lines, the block of each meter that had a step, and the counts.
use Rattle.std.specs.Prelude.{ℕ, ◌+◌, ◌==◌, if◌then◌else◌, List, [], ◌∷◌, ◌++◌, reverse, map, Option, Some, None, slice_get}
use Rattle.std.specs.List.{flat_map}
use Rattle.line_teller.specs.declared.ending.LinesEnd.{LinesEnd}
use Rattle.meter_address.specs.declared.address.Address.{Address}
use Rattle.meter_slots.specs.declared.entry.Event.{Event}
use Rattle.meter_slots.specs.declared.reading.Reading.{Reading}
use Rattle.meter_slots.specs.declared.standing.Served.{Served}
use Rattle.meter_slots.specs.Journal.{Start, SlotView, commission_of, standing, outcome, stored, reading_of}
use Rattle.meter_worlds.specs.PassingWorld.{has_steps}
use Rattle.meter_slots.specs.Resuming.{known_now}
use Rattle.meter_slots.specs.World.{WorldView, slot_of, world_of}
use Rattle.receivers.specs.Alone.{steps_of}
use Rattle.receivers.specs.Classes.{counts_of}
use Rattle.receivers.specs.declared.told.Told.{Told}
use Rattle.receivers.specs.Told.{told_of}
use Rattle.state_file.specs.Left.{left_state}
use Rattle.state_file.specs.Whole.{Known}
use Rattle.state_file.specs.Written.{state_text}
use Rattle.step_text.specs.declared.said.Said.{Said}
use Rattle.step_text.specs.declared.said.Said.TheVariants as said
use Rattle.step_text.specs.Lines.{step_line, stranger_line, unframed_line, bad_line, block_line, counts_line}
use Rattle.step_text.specs.Said.{said_of}
use Rattle.steps_main.specs.Statuses.{ended_at}

-- ---- a meter

-- its slot behind lines that told this
abbrev pub slot_behind : Address → List Told → Start → SlotView
slot_behind own before c = slot_of own (steps_of 1 before) c

-- the reading that a slot stores of an event, if it stores one
abbrev pub reading_by : SlotView → Event → Option Reading
reading_by b e = slice_get (reading_of e (stored (commission_of b.start) (standing b.start (reverse b.journal)) e)) 0

-- what it answers to the event, with that reading
abbrev pub served_by : SlotView → Event → Served
served_by b e = record { outcome = outcome b.start b.own (reverse b.journal) e; reading = reading_by b e }

-- what is known at the beginning of the meter with this address, if there is one
abbrev pub start_for : List Start → Address → Option Start
start_for [] address = None
start_for (c ∷ starts) address = if c.address.0 == address.0 then Some c else start_for starts address

-- ---- lines

-- an event: what its meter answers, or that there is no such meter
abbrev pub event_told : Address → List Told → ℕ → Address → Event → Option Start → List ℕ
event_told own before n address event None = stranger_line n address event
event_told own before n address event (Some c) = step_line n address event (served_by (slot_behind own before c) event)

abbrev pub said_told : Known → List Told → ℕ → Said → List ℕ
said_told known before n (said.Event address event) = event_told known.own before n address event (start_for known.starts address)
said_told known before n (said.Unframed fault) = unframed_line n fault
said_told known before n (said.Bad bad) = bad_line n bad

-- what is told of the line with this number, where the lines before it told this
abbrev pub line_told : Known → List Told → ℕ → List ℕ → List ℕ
line_told known before n line = said_told known before n (said_of line)

-- of lines, one after another, of which the first one has this number
abbrev pub lines_told : Known → List Told → ℕ → List (List ℕ) → List ℕ
lines_told known before n [] = []
lines_told known before n (line ∷ lines) = line_told known before n line ++ lines_told known (before ++ told_of line ∷ []) (n + 1) lines

-- ---- a session

-- what was known of the meters when it began, the lines that were taken of the receiver, and how they ended
pub record Heard : Type 0 where
  pub known : Known
  pub lines : List (List ℕ)
  pub end : LinesEnd

-- what the lines told
abbrev pub tellings : Heard → List Told
tellings h = map told_of h.lines

-- the meters' slots behind them, each after its own lines, and the strangers
abbrev pub world_behind : Heard → WorldView
world_behind h = world_of h.known.own h.known.starts (steps_of 1 (tellings h))

-- what is known now of a meter that had a step
abbrev pub block_told : SlotView → List ℕ
block_told b = if has_steps b.journal then block_line (known_now b) else []

-- how many lines of each class were taken, and how they ended
abbrev pub counts_told : Heard → List ℕ
counts_told h = counts_line (counts_of (map (λ c. c.address) h.known.starts) (tellings h)) (ended_at h.end)

-- what is told behind all lines: the blocks in the state's order, and the counts last
abbrev pub end_told : Heard → List ℕ
end_told h = flat_map block_told (world_behind h).slots ++ counts_told h

-- all that is told
abbrev pub told_text : Heard → List ℕ
told_text h = lines_told h.known [] 1 h.lines ++ end_told h

-- what is left for the next session
abbrev pub next_known : Heard → Known
next_known h = left_state h.known.own (world_behind h).slots

abbrev pub next_text : Heard → List ℕ
next_text h = state_text (next_known h)
