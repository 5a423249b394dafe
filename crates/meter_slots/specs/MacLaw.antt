-- The law of mode 7 in one fact: a message is stored exactly where its MAC verifies and its counter exceeds the last stored one.
use Rattle.std.specs.Prelude.{ℕ, ◌≡◌, ◌↔◌, List, ◌∷◌, ◌++◌, reverse, Some, Ok}
use Rattle.std.specs.List.{All}
use Rattle.meter_address.specs.declared.address.Address.{Address}
use Rattle.meter_address.specs.declared.commission.Mode.TheVariants.{Seven}
use Rattle.frame_formats.specs.Crc.{IsBytes}
use Rattle.frame_formats.specs.declared.format.Format.{Format}
use Rattle.afl_fragments.specs.Held.{Told, Piece, Message}
use Rattle.message_check.specs.Opening.{Found, Genuine7}
use Rattle.meter_slots.specs.declared.entry.Entry.{Entry}
use Rattle.meter_slots.specs.declared.entry.Event.{Event}
use Rattle.meter_slots.specs.declared.entry.Event.TheVariants.{Hear}
use Rattle.meter_slots.specs.Hearing.{received, brought}
use Rattle.meter_slots.specs.Journal.{Start, Legal, commission_of, other_key, rekeyed, stored_counter, told}
use Rattle.meter_slots.specs.Laws.{IsAbove, last_stored}

-- what comes is bytes
abbrev pub HearsBytes : Event → Type 0
HearsBytes (Hear format at t) = IsBytes t
HearsBytes _ = Unit {0}

abbrev pub EntryHearsBytes : Entry → Type 0
EntryHearsBytes x = HearsBytes x.event

-- and so is a piece of a message
abbrev pub TellsBytes : Told → Type 0
TellsBytes (Piece part) = IsBytes part.bytes
TellsBytes _ = Unit {0}

-- The message that a telegram brings behind some entries, its own or the one that its fragment completes, is genuine by its MAC under the
-- meter's keys as they are then, and has the counter n.
pub record BringsGenuine (c : Start) (before : List Entry) (t : List ℕ) (n : ℕ) : Type 0 where
  pub message : Message
  pub is_brought : brought (told c (reverse before)) t (received Seven t) ≡ Ok (Some message)
  pub found : Found
  pub is_genuine : Genuine7 (rekeyed (commission_of c) (other_key c (reverse before))) message.auth message.bytes found
  pub counter : found.counter ≡ n

-- what a meter of mode 7 is answered to a telegram: its message is stored with the counter n exactly where it is genuine with it and n exceeds
-- the counter that was stored last, or the one that was known before where none was
abbrev pub StoresByMac : Start → List Entry → Entry → Type 0
StoresByMac c before x = (format : Format) (at : ℕ) (t : List ℕ) (n : ℕ) → x.event ≡ Hear format at t
    → (stored_counter x.outcome ≡ Some n) ↔ (BringsGenuine c before t n × IsAbove n (last_stored c before))

abbrev pub MacsDecide : Type 0
MacsDecide = (c : Start) (own : Address) (before : List Entry) (x : Entry) (after : List Entry)
    → c.mode ≡ Seven → Legal c own (before ++ x ∷ after)
    → All TellsBytes c.told → All EntryHearsBytes before → EntryHearsBytes x
    → StoresByMac c before x
