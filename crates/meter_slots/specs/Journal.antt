-- What a slot's journal means. Of a list of entries here the latest stands first, so that the tail of a list is what came before its head.
use Rattle.std.specs.Prelude.{ℕ, ◌≡◌, max, Bool, List, [], ◌∷◌, ◌++◌, reverse, slice_index, Option, Some, None, option_to_list, option_map}
use Rattle.std.specs.Prelude.{Result, Ok, Err}
use Rattle.std.specs.Result.{result_ok}
use Rattle.meter_address.specs.declared.address.Address.{Address}
use Rattle.meter_address.specs.declared.commission.Mode.{Mode}
use Rattle.meter_address.specs.declared.commission.Mode.TheVariants.{Five, Seven}
use Rattle.meter_address.specs.Commission.{Commissioned}
use Rattle.ell_layer.specs.declared.access.Access.{Access}
use Rattle.ell_layer.specs.declared.access.Access.TheVariants as access
use Rattle.ell_layer.specs.declared.extension.Ell.{Ell}
use Rattle.command_queue.specs.declared.command.Command.{Command}
use Rattle.command_queue.specs.declared.command.NoSuch.{NoSuch as Missing}
use Rattle.command_queue.specs.declared.command.QueueFault.{QueueFault}
use Rattle.command_queue.specs.declared.command.QueueFault.TheVariants as queue
use Rattle.command_queue.specs.Pending.{put_answer, take_answer}
use Rattle.command_queue.specs.Orders.{Orders, after_put, after_cancel, expired, after_tick, confirmed, sent_at, after_stored}
use Rattle.command_queue.specs.Moves.{fresh_orders}
use Rattle.afl_fragments.specs.Held.{Told, Piece, Clear, Message}
use Rattle.afl_fragments.specs.Held as fragments
use Rattle.message_check.specs.Steps.{◌>>=◌}
use Rattle.message_check.specs.Opening.{Found, opened5, opened7, compared5, compared7}
use Rattle.message_check.specs.declared.headers.Layers.{Layers}
use Rattle.message_check.specs.declared.refusal.Reason.{Reason}
use Rattle.message_check.specs.declared.refusal.Reason.TheVariants.{QueueFull, IdsSpent, NoSuch, KeyInMode5}
use Rattle.meter_slots.specs.Hearing.{Content, Whole, Part, content_behind, is_response, received, brought}
use Rattle.meter_slots.specs.declared.entry.Entry.{Entry}
use Rattle.meter_slots.specs.declared.entry.Event.{Event}
use Rattle.meter_slots.specs.declared.entry.Event.TheVariants.{Hear, Tick, Put, Cancel, Rekey}
use Rattle.meter_slots.specs.declared.entry.Outcome.{Outcome}
use Rattle.meter_slots.specs.declared.entry.Outcome.TheVariants.{Stored, PartKept, Ticked, Queued, Cancelled, Rekeyed, Refused}
use Rattle.downlink_maker.specs.Sent.{Sent}
use Rattle.downlink_maker.specs.Downlink.{downlink}
use Rattle.meter_slots.specs.declared.reading.Reading.{Reading}

-- ---- what a slot begins with

-- What is known of a meter when its slot is made: its address, mode and first key; the second key and the last number; what was told of
-- fragments; the commands that wait, their window and the last counter of a downlink; and the last reading. A commission says all of it
-- of a meter of which nothing was heard, and the end of a journal says it of one that was heard before.
pub record Start : Type 0 where
  pub address : Address
  pub mode : Mode
  pub key : List ℕ
  pub other : Option (List ℕ)
  pub last : Option ℕ
  pub told : List Told
  pub orders : Orders
  pub reading : Option Reading

-- the start of a commissioned meter: no fragment is held, no command waits, and nothing was read
abbrev pub fresh_start : Commissioned → Start
fresh_start c = record {
  address = c.address;
  mode = c.mode;
  key = c.key;
  other = c.other;
  last = c.last;
  told = [];
  orders = fresh_orders c.ids c.down;
  reading = None;
}

-- the commission in a start
abbrev pub commission_of : Start → Commissioned
commission_of c = record {
  address = c.address;
  mode = c.mode;
  key = c.key;
  other = c.other;
  last = c.last;
  down = c.orders.down;
  ids = c.orders.queue.ids;
}

-- ---- fragments

-- the counter that an outcome stored
abbrev pub stored_counter : Outcome → Option ℕ
stored_counter (Stored counter confirmed sent) = Some counter
stored_counter _ = None

-- once a message that fragments made is stored, they are given up
abbrev pub given_up : Option ℕ → List Told
given_up None = []
given_up (Some counter) = Clear ∷ []

-- what comes of content, after which these were told
abbrev pub told_with : Content → List Told → List Told
told_with (Whole message) later = []
told_with (Part part) later = later ++ Piece part ∷ []

abbrev pub told_by_received : List ℕ → Result Layers Reason → List Told → List Told
told_by_received t (Err reason) later = []
told_by_received t (Ok l) later = told_with (content_behind t l) later

-- what an entry tells of fragments: a fragment that isn't refused before it is looked at, the storing of what fragments made, a tick
abbrev pub told_by : Commissioned → Event → Outcome → List Told
told_by c (Hear format at t) outcome = told_by_received t (received c.mode t) (given_up (stored_counter outcome))
told_by c Tick outcome = fragments.Tick ∷ []
told_by c (Put payload) outcome = []
told_by c (Cancel id) outcome = []
told_by c (Rekey key) outcome = []

-- what was told before the first entry, and what the entries tell
unfoldable pub told : Start → List Entry → List Told
told c [] = c.told
told c (x ∷ earlier) = told_by (commission_of c) x.event x.outcome ++ told c earlier

-- ---- the second key

-- a second key that comes: a meter of mode 7 takes it, and one of mode 5 has one key alone
abbrev pub other_given : Mode → List ℕ → Option (List ℕ) → Option (List ℕ)
other_given Five key other = other
other_given Seven key other = Some key

-- the second key after an event
abbrev pub other_after : Mode → Event → Option (List ℕ) → Option (List ℕ)
other_after mode (Rekey key) other = other_given mode key other
other_after mode _ other = other

-- the second key after some entries: that of the latest rekeying, or the one before all of them where there is none
abbrev pub other_key : Start → List Entry → Option (List ℕ)
other_key c [] = c.other
other_key c (x ∷ earlier) = other_after c.mode x.event (other_key c earlier)

-- the commission with this second key: that with which a message is opened
abbrev pub rekeyed : Commissioned → Option (List ℕ) → Commissioned
rekeyed c other = record c { other = other }

-- ---- messages and counters

-- what a message says by itself once it is checked (mode 5) or its MAC is verified (mode 7), or its first refusal
abbrev pub opened_in : Mode → Commissioned → Message → Result Found Reason
opened_in Five c m = opened5 c m.bytes
opened_in Seven c m = opened7 c m.auth m.bytes

-- what is found, where its number isn't the last one (mode 5) or is above the last one (mode 7), or that refusal
abbrev pub compared : Mode → Option ℕ → Found → Result Found Reason
compared Five last f = compared5 last f
compared Seven last f = compared7 last f

abbrev pub genuine_in : Commissioned → Result (Option Message) Reason → Option Found
genuine_in c (Ok (Some m)) = result_ok (opened_in c.mode c m)
genuine_in c _ = None

-- what a telegram's message says, where it brings one that is checked (mode 5) or genuine (mode 7), under the keys that there are then
abbrev pub genuine : Start → List Entry → Event → Option Found
genuine c earlier (Hear format at t) = genuine_in (rekeyed (commission_of c) (other_key c earlier)) (brought (told c earlier) t (received c.mode t))
genuine c earlier _ = None

-- the counters (mode 7) or access numbers (mode 5) of all genuine messages, stored or not
abbrev pub counters : Start → List Entry → List ℕ
counters c [] = []
counters c (x ∷ earlier) = option_to_list (option_map (λ f. f.counter) (genuine c earlier x.event)) ++ counters c earlier

abbrev pub greater : ℕ → Option ℕ → Option ℕ
greater n None = Some n
greater n (Some k) = Some (max n k)

-- the greatest of some numbers
abbrev pub greatest : List ℕ → Option ℕ
greatest [] = None
greatest (n ∷ ns) = greater n (greatest ns)

-- the latest of some numbers, of which the latest stands first
abbrev pub latest : List ℕ → Option ℕ
latest [] = None
latest (n ∷ ns) = Some n

-- the number with which the next is compared, of all so far, the latest first: in mode 7 the greatest, in mode 5 the latest
abbrev pub last_among : Mode → List ℕ → Option ℕ
last_among Five ns = latest ns
last_among Seven ns = greatest ns

-- the last number; the one that was known before stands before all others
unfoldable pub last_counter : Start → List Entry → Option ℕ
last_counter c earlier = last_among c.mode (counters c earlier ++ option_to_list c.last)

-- ---- verdicts

-- what some entries come to: the second key, the last number, what was told of fragments, and the commands
pub record Standing : Type 0 where
  pub other : Option (List ℕ)
  pub last : Option ℕ
  pub told : List Told
  pub orders : Orders

abbrev pub stored_or_refused : Result Found Reason → Result (Option Found) Reason
stored_or_refused (Ok f) = Ok (Some f)
stored_or_refused (Err reason) = Err reason

-- a message is opened, and what it says is compared with the last number
abbrev pub judged_in : Mode → Commissioned → Option ℕ → Message → Result Found Reason
judged_in mode c last m = opened_in mode c m >>= compared mode last

-- what is stored, nothing where a fragment completes no message, or the first refusal
abbrev pub judged : Commissioned → Option ℕ → Result (Option Message) Reason → Result (Option Found) Reason
judged c last (Err reason) = Err reason
judged c last (Ok None) = Ok None
judged c last (Ok (Some m)) = stored_or_refused (judged_in c.mode c last m)

-- the same of a telegram
abbrev pub verdict : Commissioned → Standing → List ℕ → Result (Option Found) Reason
verdict c s t = judged (rekeyed c s.other) s.last (brought s.told t (received c.mode t))

-- ---- commands

-- when the meter listens: as the extended link layer says, where there is one; else as the message says
abbrev pub access_by : Option Ell → Access → Access
access_by None access = access
access_by (Some e) access = e.access

-- the same of a telegram whose message is stored
abbrev pub access_of : Result Layers Reason → Result (Option Found) Reason → Access
access_of (Ok l) (Ok (Some f)) = access_by l.ell f.access
access_of _ _ = access.None

abbrev pub access_at : Commissioned → Standing → Event → Access
access_at c s (Hear format at t) = access_of (received c.mode t) (verdict c s t)
access_at c s _ = access.None

-- a stored message moves the commands
abbrev pub orders_heard : Orders → Access → Bool → Outcome → Orders
orders_heard k access response (Stored counter confirmed sent) = after_stored k access response
orders_heard k access response _ = k

-- how an entry moves the commands
abbrev pub orders_after : Orders → Access → Event → Outcome → Orders
orders_after k access (Hear format at t) outcome = orders_heard k access (is_response (slice_index t 1)) outcome
orders_after k access Tick outcome = after_tick k
orders_after k access (Put payload) outcome = after_put k payload
orders_after k access (Cancel id) outcome = after_cancel k id
orders_after k access (Rekey key) outcome = k

-- what some entries come to, and these commands
abbrev pub standing_with : Start → List Entry → Orders → Standing
standing_with c earlier k = record { other = other_key c earlier; last = last_counter c earlier; told = told c earlier; orders = k }

-- the commands that wait, the window, and the last counter of a downlink
abbrev pub orders : Start → List Entry → Orders
orders c [] = c.orders
orders c (x ∷ earlier) = let k = orders c earlier in orders_after k (access_at (commission_of c) (standing_with c earlier k) x.event) x.event x.outcome

-- what some entries come to
abbrev pub standing : Start → List Entry → Standing
standing c earlier = standing_with c earlier (orders c earlier)

-- ---- outcomes

-- the downlink of a command under this counter
abbrev pub downlink_with : Address → Commissioned → ℕ → Command → Sent
downlink_with own c down command = record { bytes = downlink own c down command.payload; id = command.id; down = down }

-- what is answered to a verdict: a stored message may confirm a command, and one may be sent, with the counter that follows
abbrev pub heard : Address → Commissioned → Orders → Access → Bool → Result (Option Found) Reason → Outcome
heard own c k access response (Err reason) = Refused reason
heard own c k access response (Ok None) = PartKept
heard own c k access response (Ok (Some f)) =
    Stored f.counter (confirmed k response) (option_map (downlink_with own c (after_stored k access response).down)
    (sent_at k access response))

abbrev pub queued : Result ℕ QueueFault → Outcome
queued (Ok id) = Queued id
queued (Err queue.Full) = Refused QueueFull
queued (Err queue.IdsSpent) = Refused IdsSpent

abbrev pub cancelled : ℕ → Result Command Missing → Outcome
cancelled id (Ok command) = Cancelled id
cancelled id (Err missing) = Refused (NoSuch id)

-- what a second key is answered
abbrev pub key_answer : Mode → Outcome
key_answer Five = Refused KeyInMode5
key_answer Seven = Rekeyed

-- what an event is answered
abbrev pub answer : Commissioned → Address → Standing → Event → Outcome
answer c own s (Hear format at t) = heard own c s.orders (access_at c s (Hear format at t)) (is_response (slice_index t 1)) (verdict c s t)
answer c own s Tick = Ticked (expired s.orders)
answer c own s (Put payload) = queued (put_answer s.orders.queue)
answer c own s (Cancel id) = cancelled id (take_answer id s.orders.queue)
answer c own s (Rekey key) = key_answer c.mode

-- what an event is answered after the earlier entries
unfoldable pub outcome : Start → Address → List Entry → Event → Outcome
outcome c own earlier event = answer (commission_of c) own (standing c earlier) event

-- each entry has the outcome that those before it give
abbrev pub IsJudged : Start → Address → List Entry → Type 0
IsJudged c own [] = Unit {0}
IsJudged c own (x ∷ earlier) = (x.outcome ≡ outcome c own earlier x.event) × IsJudged c own earlier

-- a journal, oldest entry first, of a slot that began so
abbrev pub Legal : Start → Address → List Entry → Type 0
Legal c own journal = IsJudged c own (reverse journal)

-- ---- readings

abbrev pub stored_in : Result (Option Found) Reason → Option Found
stored_in (Ok found) = found
stored_in (Err reason) = None

-- what an event stores
abbrev pub stored : Commissioned → Standing → Event → Option Found
stored c s (Hear format at t) = stored_in (verdict c s t)
stored c s _ = None

-- the reading of what is stored: its moment, its counter and its payload
abbrev pub reading_at : ℕ → Option Found → List Reading
reading_at at None = []
reading_at at (Some f) = record { at = at; counter = f.counter; payload = f.payload } ∷ []

abbrev pub reading_of : Event → Option Found → List Reading
reading_of (Hear format at t) found = reading_at at found
reading_of _ found = []

abbrev pub readings_back : Start → List Entry → List Reading
readings_back c [] = []
readings_back c (x ∷ earlier) = readings_back c earlier ++ reading_of x.event (stored (commission_of c) (standing c earlier) x.event)

-- the readings of a journal, the oldest first
unfoldable pub readings : Start → List Entry → List Reading
readings c journal = readings_back c (reverse journal)

-- what contracts see of a slot: the collector's own address, what it began with, and its journal
pub record SlotView : Type 0 where
  pub own : Address
  pub start : Start
  pub journal : List Entry
