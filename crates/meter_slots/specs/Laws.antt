-- Words for laws of journals.
use Rattle.std.specs.Prelude.{ℕ, ◌≡◌, ◌^◌, ◌<◌, ◌≤◌, List, [], ◌∷◌, length, reverse, Option, Some, None, option_map, option_to_list}
use Rattle.std.specs.Prelude.{filter_map}
use Rattle.std.specs.List.{All, flat_map}
use Rattle.meter_address.specs.declared.address.Address.{Address}
use Rattle.meter_address.specs.Commission.{Commissioned}
use Rattle.message_check.specs.Opening.{Found}
use Rattle.command_queue.specs.declared.command.Command.{Command}
use Rattle.command_queue.specs.Orders.{Orders}
use Rattle.downlink_maker.specs.Sent.{Sent}
use Rattle.downlink_maker.specs.Downlink.{downlink}
use Rattle.meter_slots.specs.declared.entry.Entry.{Entry}
use Rattle.meter_slots.specs.declared.entry.Event.{Event}
use Rattle.meter_slots.specs.declared.entry.Event.TheVariants.{Hear, Put, Rekey}
use Rattle.meter_slots.specs.declared.entry.Outcome.{Outcome}
use Rattle.meter_slots.specs.declared.entry.Outcome.TheVariants.{Stored, Refused}
use Rattle.meter_slots.specs.declared.reading.Reading.{Reading}
use Rattle.meter_slots.specs.Journal.{Start, SlotView, Legal, stored_counter, other_key, last_counter, orders, reading_of, readings}
use Rattle.meter_slots.specs.World.{Call}

-- the stored counters of a journal
abbrev pub stored_counters : List Entry → List ℕ
stored_counters journal = filter_map (λ x. stored_counter x.outcome) journal

-- the moment of a reading and its counter
abbrev pub moment_read : Reading → ℕ × ℕ
moment_read r = (r.at, r.counter)

-- the moment of the telegram with which a message is stored, and the message's counter
abbrev pub stored_moment : Event → Outcome → Option (ℕ × ℕ)
stored_moment (Hear format at t) (Stored counter confirmed sent) = Some (at, counter)
stored_moment _ _ = None

-- the same of all stored messages of a journal
abbrev pub stored_moments : List Entry → List (ℕ × ℕ)
stored_moments journal = filter_map (λ x. stored_moment x.event x.outcome) journal

-- the reading that an outcome adds: where it stored a message, that of the genuine message which the event brought
abbrev pub reading_added : Outcome → Event → Option Found → List Reading
reading_added (Stored counter confirmed sent) event found = reading_of event found
reading_added _ event found = []

-- the counter of the downlink that an outcome sent
abbrev pub sent_counter : Outcome → Option ℕ
sent_counter (Stored counter confirmed sent) = option_map (λ downlink. downlink.down) sent
sent_counter _ = None

-- the counters of the downlinks that a journal sent
abbrev pub sent_counters : List Entry → List ℕ
sent_counters journal = filter_map (λ x. sent_counter x.outcome) journal

-- the downlink that an outcome sent
abbrev pub downlinks_of : Outcome → List Sent
downlinks_of (Stored counter confirmed sent) = option_to_list sent
downlinks_of _ = []

-- the downlinks that a journal sent
abbrev pub downlinks_in : List Entry → List Sent
downlinks_in journal = flat_map (λ x. downlinks_of x.outcome) journal

-- the payload of a command: 1 to 94 bytes
pub record IsPayload (payload : List ℕ) : Type 0 where
  pub least : 1 ≤ length payload
  pub most : length payload ≤ 94
  pub bytes : All (λ b. b < 256) payload

abbrev pub HasPayload : Command → Type 0
HasPayload command = IsPayload command.payload

-- each command that waits has a payload
abbrev pub AreReady : Orders → Type 0
AreReady k = All HasPayload k.queue.commands

-- a command that is put has a payload
abbrev pub PutsPayload : Event → Type 0
PutsPayload (Put payload) = IsPayload payload
PutsPayload _ = Unit {0}

-- what is sent is the downlink of a payload under its counter, to the meter of this commission under its first key
pub record CarriesPayload (own : Address) (c : Commissioned) (s : Sent) : Type 0 where
  pub payload : List ℕ
  pub is_payload : IsPayload payload
  pub counter : s.down < 2 ^ 32
  pub bytes : s.bytes ≡ downlink own c s.down payload

-- it brings no second key
abbrev pub LeavesKeys : Event → Type 0
LeavesKeys (Rekey key) = ⊥
LeavesKeys _ = Unit {0}

-- above a floor, if there is one
abbrev pub IsAbove : ℕ → Option ℕ → Type 0
IsAbove n None = Unit {0}
IsAbove n (Some k) = k < n

-- the last of some numbers, or this where there are none
abbrev pub last_or : Option ℕ → List ℕ → Option ℕ
last_or floor [] = floor
last_or floor (n ∷ ns) = last_or (Some n) ns

-- the counter of the message that a journal stored last, or the one that was known before where it stored none
abbrev pub last_stored : Start → List Entry → Option ℕ
last_stored c journal = last_or c.last (stored_counters journal)

-- each number is above the one before it, and the first one is above the floor
abbrev pub IsRising : Option ℕ → List ℕ → Type 0
IsRising floor [] = Unit {0}
IsRising floor (n ∷ ns) = IsAbove n floor × IsRising (Some n) ns

-- all of these are below a number
abbrev pub AreBelow : ℕ → List ℕ → Type 0
AreBelow n [] = Unit {0}
AreBelow n (k ∷ ks) = (k < n) × AreBelow n ks

abbrev pub IsRefused : Outcome → Type 0
IsRefused (Refused reason) = Unit {0}
IsRefused _ = ⊥

-- the second key, the last counter, the commands with their window, and the readings are as they were
pub record IsLeft (old new : SlotView) : Type 0 where
  pub other : other_key new.start (reverse new.journal) ≡ other_key old.start (reverse old.journal)
  pub last : last_counter new.start (reverse new.journal) ≡ last_counter old.start (reverse old.journal)
  pub orders : orders new.start (reverse new.journal) ≡ orders old.start (reverse old.journal)
  pub readings : readings new.start new.journal ≡ readings old.start old.journal

-- what was asked of a slot, without the answer
abbrev pub call_in : Entry → Call
call_in x = record { source = x.source; line = x.line; event = x.event }

-- the journal of a slot is legal for what it began with
abbrev pub IsLegal : SlotView → Type 0
IsLegal slot = Legal slot.start slot.own slot.journal
