-- Words of private contracts: what a slot keeps beside its journal, and what its steps answer.
use Rattle.std.specs.Prelude.{ℕ, ◌≡◌, ◌+◌, ◌-◌, ◌≤◌, drop, min, true, if◌then◌else◌, List, [], ◌++◌, length, reverse, Option, Some, None, is_some, option_map}
use Rattle.std.specs.Prelude.{Result, Ok, Err, Box}
use Rattle.std.specs.declared.alloc.Global.{Global}
use Rattle.std.specs.List.{All}
use Rattle.std.specs.Option.{ForSome}
use Rattle.meter_address.specs.declared.address.Address.{Address}
use Rattle.meter_address.specs.declared.commission.Mode.{Mode}
use Rattle.meter_address.specs.declared.commission.Mode.TheVariants.{Seven}
use Rattle.meter_address.specs.Commission.{Commissioned, most_last}
use Rattle.afl_layer.specs.declared.header.Afl.{Afl}
use Rattle.command_queue.specs.Orders.{Orders}
use Rattle.afl_fragments.specs.declared.parts.Parts.{Parts}
use Rattle.afl_fragments.specs.declared.places.HeldPart.{HeldPart}
use Rattle.afl_fragments.specs.Fragment.{IsFragment}
use Rattle.afl_layer.specs.Fields.{is_fragment}
use Rattle.afl_fragments.specs.Held.{Told, Message, StandsFor, held_bytes}
use Rattle.message_check.specs.Layers.{has_piece}
use Rattle.message_check.specs.Opening.{Found}
use Rattle.message_check.specs.Opened.{found_in}
use Rattle.message_check.specs.declared.headers.Layers.{Layers}
use Rattle.message_check.specs.declared.opening.Opened.{Opened}
use Rattle.message_check.specs.declared.refusal.Reason.{Reason}
use Rattle.meter_slots.specs.Hearing.{Whole, content_behind, received, brought}
use Rattle.meter_slots.specs.Journal.{Start, commission_of, Standing, Legal, opened_in, told_by_received, other_after, other_key, rekeyed, last_counter, told_by, told, access_at}
use Rattle.meter_slots.specs.Journal.{orders_after, orders, judged, readings}
use Rattle.meter_slots.specs.Laws.{AreReady, PutsPayload}
use Rattle.meter_slots.specs.declared.entry.Entry.{Entry}
use Rattle.meter_slots.specs.declared.entry.Event.{Event}
use Rattle.meter_slots.specs.declared.entry.Outcome.{Outcome}
use Rattle.meter_slots.specs.declared.entry.Outcome.TheVariants.{Stored}
use Rattle.meter_slots.specs.declared.reading.Reading.{Reading}

-- what a meter's messages are judged by: its commission with the second key that it has now, and the last number
pub record Bar : Type 0 where
  pub commission : Commissioned
  pub last : Option ℕ

-- what a slot keeps of what its entries come to: the same, the fragments that are held, and the commands
pub record Kept : Type 0 where
  pub commission : Commissioned
  pub last : Option ℕ
  pub parts : List HeldPart
  pub orders : Orders

-- a telegram that is kept in mind, and the counter of its message
pub record Known : Type 0 where
  pub bytes : List ℕ
  pub counter : ℕ

-- a telegram that alone brings a genuine message of mode 7 with this counter
pub record Brings (c : Commissioned) (k : Known) : Type 0 where
  pub mode : c.mode ≡ Seven
  pub layers : Layers
  pub received_is : received c.mode k.bytes ≡ Ok layers
  pub message : Message
  pub whole : content_behind k.bytes layers ≡ Whole message
  pub found : Found
  pub genuine : opened_in c.mode c message ≡ Ok found
  pub counter : found.counter ≡ k.counter

-- a telegram that is refused whatever was told of fragments, and tells nothing of them
pub record IsRefusedAlone (c : Commissioned) (last : Option ℕ) (t : List ℕ) (reason : Reason) : Type 0 where
  pub refused : (told : List Told) → judged c last (brought told t (received c.mode t)) ≡ Err reason
  pub tells : (later : List Told) → told_by_received t (received c.mode t) later ≡ []

-- a verdict that is that of a whole message, where these layers have one behind them
abbrev pub IsOfWhole : Bar → List ℕ → Result Layers Reason → Result (Option Found) Reason → Type 0
IsOfWhole b t layers verdict = (l : Layers) (m : Message) → layers ≡ Ok l → content_behind t l ≡ Whole m
    → verdict ≡ judged b.commission b.last (Ok (Some m))

-- the fragments that are held, none where there was no room for any yet
abbrev pub held_by : Option (Box Parts Global) → List HeldPart
held_by None = []
held_by (Some parts) = parts.value

-- a telegram with this header finds room for its fragment, where it has one
abbrev pub Admits : Option Afl → Option (Box Parts Global) → Type 0
Admits afl parts = has_piece afl ≡ true → is_some parts ≡ true

-- what it stands for, where its fragments are those that are held after what was told
abbrev pub standing_for : Kept → List Told → Standing
standing_for k told = record { other = k.commission.other; last = k.last; told = told; orders = k.orders }

-- what a slot keeps is what its journal comes to
pub record Keeps (c : Start) (own : Address) (journal : List Entry) (k : Kept) (kept : List Reading) : Type 0 where
  pub legal : Legal c own journal
  pub payloads : All (λ x. PutsPayload x.event) journal
  pub ready : AreReady c.orders
  pub commission_is : k.commission ≡ rekeyed (commission_of c) (other_key c (reverse journal))
  pub last_is : k.last ≡ last_counter c (reverse journal)
  pub last_fits : ForSome k.last (λ n. n ≤ most_last c.mode)
  pub parts_are : StandsFor k.parts (told c (reverse journal))
  pub orders_are : k.orders ≡ orders c (reverse journal)
  pub readings_are : kept ≡ readings c journal

-- the last number after an outcome
abbrev pub last_after : Option ℕ → Outcome → Option ℕ
last_after last (Stored counter confirmed sent) = Some counter
last_after last _ = last

-- what is kept after an event with this outcome, where these were told before
pub record Moves (old new : Kept) (told : List Told) (event : Event) (outcome : Outcome) : Type 0 where
  pub commission : new.commission ≡ rekeyed old.commission (other_after old.commission.mode event old.commission.other)
  pub last : new.last ≡ last_after old.last outcome
  pub parts : StandsFor new.parts (told_by old.commission event outcome ++ told)
  pub orders : new.orders ≡ orders_after old.orders (access_at old.commission (standing_for old told) event) event outcome

-- what is stored is a number of the meter's mode
abbrev pub StoresInRange : Mode → Outcome → Type 0
StoresInRange mode (Stored counter confirmed sent) = counter ≤ most_last mode
StoresInRange mode _ = Unit {0}

-- the counter that a verdict stores
abbrev pub stored_by : Result (Option Found) Reason → Option ℕ
stored_by (Ok (Some f)) = Some f.counter
stored_by _ = None

-- a fragment's header has a number, and its piece fits into a fragment
pub record IsPiece (a : Afl) (bytes : List ℕ) : Type 0 where
  pub fragment : IsFragment a
  pub most : length bytes ≤ 242

abbrev pub PieceFits : Option Afl → List ℕ → Type 0
PieceFits None bytes = Unit {0}
PieceFits (Some a) bytes = is_fragment a ≡ true → IsPiece a bytes

-- a fragment has one of sixteen numbers
abbrev pub HasPlace : Option Afl → Type 0
HasPlace None = Unit {0}
HasPlace (Some a) = is_fragment a ≡ true → a.fid ≤ 16

-- what is found in a buffer
abbrev pub found_as : List ℕ → Option Opened → Option Found
found_as bytes opened = option_map (found_in bytes) opened

-- the verdict that was reached in a buffer
abbrev pub verdict_as : List ℕ → Result (Option Opened) Reason → Result (Option Found) Reason
verdict_as bytes (Ok opened) = Ok (found_as bytes opened)
verdict_as bytes (Err reason) = Err reason

-- the verdict on a message by what is kept
abbrev pub judged_by : Bar → Result (Option Message) Reason → Result (Option Found) Reason
judged_by b m = judged b.commission b.last m

-- how many bytes a message has at most that is made with these: a piece may be joined to all that are held
abbrev pub most_joined : Option Afl → List HeldPart → List ℕ → ℕ
most_joined afl parts bytes = if has_piece afl then held_bytes parts + length bytes else length bytes

-- the same of a telegram with these layers, or the first refusal
abbrev pub most_brought : Result Layers Reason → List HeldPart → List ℕ → ℕ
most_brought (Err reason) parts t = 0
most_brought (Ok l) parts t = most_joined l.afl parts (drop l.body t)

-- so much room is enough for the payload of what a telegram stores, since a message has at most 4,096 bytes
abbrev pub room_for : Result Layers Reason → List HeldPart → List ℕ → ℕ
room_for (Err reason) parts t = 0
room_for (Ok l) parts t = if has_piece l.afl then min (held_bytes parts) 4096 + (length t - l.body) else length t - l.body

-- what is opened stands in the buffer, is a number of the meter's mode, and has no more bytes than the room
abbrev pub OpenedFits : Mode → List ℕ → ℕ → Option Opened → Type 0
OpenedFits mode bytes room None = Unit {0}
OpenedFits mode bytes room (Some o) = (o.from ≤ length bytes) × (o.counter ≤ most_last mode) × (length bytes ≤ room)

abbrev pub VerdictFits : Mode → List ℕ → ℕ → Result (Option Opened) Reason → Type 0
VerdictFits mode bytes room (Ok opened) = OpenedFits mode bytes room opened
VerdictFits mode bytes room (Err reason) = Unit {0}

-- what is opened stands in the buffer, and there is room for it
abbrev pub OpenedHasRoom : List ℕ → ℕ → Option Opened → Type 0
OpenedHasRoom bytes room None = Unit {0}
OpenedHasRoom bytes room (Some o) = (o.from ≤ length bytes) × (min (length bytes) 4096 ≤ room)

abbrev pub VerdictHasRoom : List ℕ → ℕ → Result (Option Opened) Reason → Type 0
VerdictHasRoom bytes room (Ok opened) = OpenedHasRoom bytes room opened
VerdictHasRoom bytes room (Err reason) = Unit {0}
