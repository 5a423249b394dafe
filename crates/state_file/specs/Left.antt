-- What slots leave for the next session: a state, or a roster, which forgets the commands, the windows, the fragments and the readings.
use Rattle.std.specs.Prelude.{ℕ, List, map}
use Rattle.meter_address.specs.declared.address.Address.{Address}
use Rattle.meter_address.specs.Commission.{Commissioned}
use Rattle.meter_slots.specs.Journal.{SlotView, commission_of}
use Rattle.meter_slots.specs.Resuming.{known_now}
use Rattle.roster_file.specs.Roster.{Enrolled}
use Rattle.roster_file.specs.Text.{meter_text}
use Rattle.state_file.specs.Whole.{Known}
use Rattle.state_file.specs.Written.{block_text, IsStart}

-- the collector's own address, and what is known of each meter now
abbrev pub left_state : Address → List SlotView → Known
left_state own slots = record { own = own; starts = map known_now slots }

-- a slot's commission as it is now: its second key, its last counter, and the numbers of its downlinks and commands
abbrev pub commission_now : SlotView → Commissioned
commission_now b = commission_of (known_now b)

-- the collector's own address, and the commissions as they are now
abbrev pub left_roster : Address → List SlotView → Enrolled
left_roster own slots = record { own = own; meters = map commission_now slots }

-- ---- words of private contracts

-- what a slot leaves can be told
abbrev pub IsLeft : SlotView → Type 0
IsLeft b = IsStart (known_now b)

-- the block of a slot's meter in a state
abbrev pub slot_block : SlotView → List ℕ
slot_block b = block_text (known_now b)

-- its line in a roster
abbrev pub slot_line : SlotView → List ℕ
slot_line b = meter_text (commission_now b)
