-- Many slots, and the strangers that none of them is for.
use Rattle.std.specs.Prelude.{◌≡◌, ℕ, Bool, false, not, ◌==◌, if◌then◌else◌, List, [], ◌∷◌, ◌++◌, reverse, map, filter, Some, slice_get}
use Rattle.std.specs.List.{list_any}
use Rattle.meter_address.specs.declared.address.Address.{Address}
use Rattle.stranger_ring.specs.declared.strangers.Heard.{Heard}
use Rattle.meter_slots.specs.declared.entry.Entry.{Entry}
use Rattle.meter_slots.specs.declared.entry.Event.{Event}
use Rattle.meter_slots.specs.declared.entry.Outcome.{Outcome}
use Rattle.meter_slots.specs.declared.step.Step.{Step}
use Rattle.meter_slots.specs.declared.step.Landed.{Landed}
use Rattle.meter_slots.specs.declared.step.Landed.TheVariants.{Slot, Stranger}
use Rattle.meter_slots.specs.Journal.{Start, SlotView, outcome}

-- ---- the journal of a meter's own steps

-- what is asked of a slot, without the answer
pub record Call : Type 0 where
  pub source : ℕ
  pub line : ℕ
  pub event : Event

abbrev pub call_of : Step → Call
call_of s = record { source = s.source; line = s.line; event = s.event }

-- the journal of some calls; of both lists the latest stands first
abbrev pub judged_journal : Start → Address → List Call → List Entry
judged_journal c own [] = []
judged_journal c own (s ∷ earlier) =
    record { source = s.source; line = s.line; event = s.event; outcome = outcome c own (judged_journal c own earlier) s.event }
    ∷ judged_journal c own earlier

-- the one journal of some calls, the oldest first
abbrev pub journal_of : Start → Address → List Call → List Entry
journal_of c own calls = reverse (judged_journal c own (reverse calls))

abbrev pub is_for : Address → Step → Bool
is_for address s = s.address.0 == address.0

-- the calls of one meter
abbrev pub calls_of : Address → List Step → List Call
calls_of address steps = map call_of (filter (is_for address) steps)

-- the slot of a meter after its own steps, whatever stands between them
abbrev pub slot_of : Address → List Step → Start → SlotView
slot_of own steps c = record { own = own; start = c; journal = journal_of c own (calls_of c.address steps) }

-- ---- the world

-- whether some commission has this address
abbrev pub is_commissioned : List Start → Address → Bool
is_commissioned commissions address = list_any (λ c. c.address.0 == address.0) commissions

abbrev pub heard_of : Step → Heard
heard_of s = record { source = s.source; line = s.line; address = s.address }

-- the strangers' lines among some steps
abbrev pub strangers_of : List Start → List Step → List Heard
strangers_of commissions steps = map heard_of (filter (λ s. not (is_commissioned commissions s.address)) steps)

-- what contracts see of a world
pub record WorldView : Type 0 where
  pub slots : List SlotView
  pub strangers : List Heard

-- the world after some steps: each slot after its own, and the others with the strangers
unfoldable pub world_of : Address → List Start → List Step → WorldView
world_of own commissions steps = record { slots = map (slot_of own steps) commissions; strangers = strangers_of commissions steps }

-- where a step lands after others: in the slot of the commission with its address, or with the strangers
abbrev pub Lands : Address → List Start → List Step → Step → Landed → Type 0
Lands own commissions steps s (Slot place given) =
    (c : Start) × (slice_get commissions place ≡ Some c) × (c.address.0 ≡ s.address.0)
    × (given ≡ outcome c own (reverse (slot_of own steps c).journal) s.event)
Lands own commissions steps s Stranger = is_commissioned commissions s.address ≡ false

-- ---- one step

-- what a slot answers to a step
abbrev pub outcome_at : SlotView → Step → Outcome
outcome_at b s = outcome b.start b.own (reverse b.journal) s.event

-- a slot after one of its own steps
abbrev pub stepped_slot : Step → SlotView → SlotView
stepped_slot s b = record {
  own = b.own;
  start = b.start;
  journal = b.journal ++ record { source = s.source; line = s.line; event = s.event; outcome = outcome_at b s } ∷ [];
}

-- whether a slot has the address of a step
abbrev pub is_own : Step → SlotView → Bool
is_own s b = b.start.address.0 == s.address.0

-- whether some slot has it
abbrev pub has_slot : List SlotView → Step → Bool
has_slot slots s = list_any (is_own s) slots

-- a slot after any step: one with the step's address makes it, and any other stays as it was
abbrev pub slot_after : Step → SlotView → SlotView
slot_after s b = if is_own s b then stepped_slot s b else b

-- the strangers after any step: where no slot has its address, its line is added
abbrev pub strangers_after : WorldView → Step → List Heard
strangers_after w s = if has_slot w.slots s then w.strangers else w.strangers ++ heard_of s ∷ []

-- a world after one step
abbrev pub after_step : WorldView → Step → WorldView
after_step w s = record { slots = map (slot_after s) w.slots; strangers = strangers_after w s }

-- a step that landed in a slot has that slot's address, and its answer
abbrev pub AnsweredBy : List SlotView → Step → Landed → Type 0
AnsweredBy slots s (Slot place given) =
    (b : SlotView) × (slice_get slots place ≡ Some b) × (b.start.address.0 ≡ s.address.0) × (given ≡ outcome_at b s)
AnsweredBy slots s Stranger = Unit {0}

-- ---- words of private contracts

abbrev pub fresh_slot : Address → Start → SlotView
fresh_slot own c = record { own = own; start = c; journal = [] }

abbrev pub address_of_slot : SlotView → Address
address_of_slot b = b.start.address
