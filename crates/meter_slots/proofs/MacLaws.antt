-- Closes `macs_decide`: bytes that come and that are held make a message of bytes, of which the MAC tells alone whether it is genuine.
use Rattle.std.proofs.Common.{◌≡◌, ◌↔◌, ℕ, zero, suc, ◌-◌, Bool, not, List, [], ◌∷◌, ◌++◌, reverse, drop, find}
use Rattle.std.proofs.Common.{Option, Some, None, Result, Ok, Err, refl, ap, sym, ◌∙◌, subst}
use Rattle.std.specs.Prelude.{option_map, ◌==◌}
use Rattle.std.specs.List.{All, flat_map}
use Rattle.std.proofs.lemmas.Bool.{cond_both}
use Rattle.std.proofs.lemmas.List.{append-nil}
use Rattle.std.proofs.lemmas.List.Concat.{flat_map-append}
use Rattle.std.proofs.lemmas.List.Sorted.{All-permutation, IsPermutation-reverse}
use Rattle.std.proofs.lemmas.List.Elements.{All-nil, All-cons, All-head, All-tail, All-append, All-filter}
use Rattle.meter_address.specs.declared.commission.Mode.TheVariants.{Seven}
use Rattle.meter_address.specs.Commission.{Commissioned}
use Rattle.frame_formats.specs.Crc.{IsBytes}
use Rattle.frame_formats.proofs.Checked.{bytes-drop, bytes_joined}
use Rattle.frame_formats.specs.declared.format.Format.{Format}
use Rattle.afl_layer.specs.declared.header.Afl.{Afl}
use Rattle.afl_layer.specs.Fields.{is_fragment}
use Rattle.afl_fragments.specs.Fragment.{Fragment}
use Rattle.afl_fragments.specs.declared.places.HeldPart.{HeldPart}
use Rattle.afl_fragments.specs.Held.{Told, Piece, Tick, Clear, Message, is_counted, since, is_fid, others, latest_each, held, piece_at, is_end}
use Rattle.afl_fragments.specs.Held.{last_end, with_more, front, joined, ended_by, assembled}
use Rattle.message_check.specs.declared.headers.Layers.{Layers}
use Rattle.message_check.specs.declared.refusal.Reason.{Reason}
use Rattle.message_check.specs.Opening.{Found}
use Rattle.meter_slots.specs.declared.entry.Entry.{Entry}
use Rattle.meter_slots.specs.declared.entry.Event.{Event}
use Rattle.meter_slots.specs.declared.entry.Event.TheVariants.{Hear}
use Rattle.meter_slots.specs.declared.entry.Event.TheVariants as events
use Rattle.meter_slots.specs.declared.entry.Outcome.{Outcome}
use Rattle.meter_slots.specs.Hearing.{received, brought, auth_in, Content, Whole, Part, content_of, content_behind, message_in}
use Rattle.meter_slots.specs.Journal.{Start, commission_of, other_key, rekeyed, stored_counter, told, told_by, told_by_received, told_with, given_up}
use Rattle.meter_slots.specs.Journal.{genuine, genuine_in}
use Rattle.meter_slots.specs.Laws.{IsAbove, last_stored}
use Rattle.meter_slots.specs.MacLaw.{HearsBytes, EntryHearsBytes, TellsBytes, BringsGenuine, MacsDecide}
use Rattle.meter_slots.proofs.JournalLaws.{both_ways, genuine_by_mac, stored_above_last}

-- ---- what is held is bytes

abbrev HasBytes : HeldPart → Type 0
HasBytes h = IsBytes h.part.bytes

since_bytes : (n : ℕ) (told : List Told) → All TellsBytes told → All HasBytes (since n told)
since_bytes n (Piece part ∷ told) all =
    let rest = since_bytes n told (All-tail TellsBytes (Piece part) told all) in
    cond_both (is_counted part) (record { ticks = n; part = part } ∷ since n told) (since n told) (All HasBytes)
    (λ _. All-cons HasBytes (record { ticks = n; part = part }) (since n told) (All-head TellsBytes (Piece part) told all) rest) (λ _. rest)
since_bytes n (Tick ∷ told) all =
    cond_both (n == 0) (since 1 told) [] (All HasBytes) (λ _. since_bytes 1 told (All-tail TellsBytes Tick told all)) (λ _. All-nil HasBytes)
since_bytes n _ all = All-nil HasBytes

latest_bytes : (hs : List HeldPart) → All HasBytes hs → All HasBytes (latest_each hs)
latest_bytes [] all = All-nil HasBytes
latest_bytes (h ∷ hs) all =
    let later = latest_bytes hs (All-tail HasBytes h hs all) in
    All-cons HasBytes h (others h.part.afl.fid (latest_each hs)) (All-head HasBytes h hs all)
    (All-filter (λ k. not (is_fid h.part.afl.fid k)) HasBytes (latest_each hs) later)

held_bytes : (told : List Told) → All TellsBytes told → All HasBytes (held told)
unfolding held
held_bytes told all = latest_bytes (since 0 told) (since_bytes 0 told all)

-- ---- and so is the message that it makes

abbrev OfBytes : Option HeldPart → Type 0
OfBytes None = Unit {0}
OfBytes (Some h) = HasBytes h

found_bytes : (p : HeldPart → Bool) (hs : List HeldPart) → All HasBytes hs → OfBytes (find p hs)
found_bytes p [] all = tt
found_bytes p (h ∷ hs) all =
    cond_both (p h) (Some h) (find p hs) OfBytes (λ _. All-head HasBytes h hs all) (λ _. found_bytes p hs (All-tail HasBytes h hs all))

abbrev PiecesOfBytes : Option (List Fragment) → Type 0
PiecesOfBytes None = Unit {0}
PiecesOfBytes (Some parts) = IsBytes (flat_map (λ p. p.bytes) parts)

more_bytes : (parts : List Fragment) (part : Fragment) → IsBytes (flat_map (λ p. p.bytes) parts) → IsBytes part.bytes
    → IsBytes (flat_map (λ (p : Fragment). p.bytes) (parts ++ part ∷ []))
more_bytes parts part front_is part_is =
    subst IsBytes (sym (flat_map-append (λ (p : Fragment). p.bytes) parts (part ∷ [])
    ∙ ap (λ (xs : List ℕ). flat_map (λ (p : Fragment). p.bytes) parts ++ xs) (append-nil part.bytes)))
    (bytes_joined (flat_map (λ p. p.bytes) parts) part.bytes front_is part_is)

with_more_bytes : (o : Option (List Fragment)) (h : Option HeldPart) → PiecesOfBytes o → OfBytes h → PiecesOfBytes (with_more o h)
with_more_bytes (Some parts) (Some h) front_is bytes =
    cond_both h.part.afl.more (Some (parts ++ h.part ∷ [])) None PiecesOfBytes (λ _. more_bytes parts h.part front_is bytes) (λ _. tt)
with_more_bytes _ _ front_is bytes = tt

front_bytes : (n : ℕ) (hs : List HeldPart) → All HasBytes hs → PiecesOfBytes (front n hs)
front_bytes zero hs all = tt
front_bytes (suc n) hs all = with_more_bytes (front n hs) (piece_at (suc n) hs) (front_bytes n hs all) (found_bytes (is_fid (suc n)) hs all)

abbrev MessageOfBytes : Option Message → Type 0
MessageOfBytes None = Unit {0}
MessageOfBytes (Some m) = IsBytes m.bytes

joined_bytes : (o : Option (List Fragment)) (h : HeldPart) → PiecesOfBytes o → HasBytes h
    → MessageOfBytes (option_map (λ parts. joined parts h.part) o)
joined_bytes None h front_is bytes = tt
joined_bytes (Some parts) h front_is bytes = bytes_joined (flat_map (λ p. p.bytes) parts) h.part.bytes front_is bytes

ended_bytes : (o : Option HeldPart) (hs : List HeldPart) → OfBytes o → All HasBytes hs → MessageOfBytes (ended_by o hs)
ended_bytes None hs bytes all = tt
ended_bytes (Some h) hs bytes all = joined_bytes (front (h.part.afl.fid - 1) hs) h (front_bytes (h.part.afl.fid - 1) hs all) bytes

assembled_bytes : (hs : List HeldPart) → All HasBytes hs → MessageOfBytes (assembled hs)
unfolding assembled
assembled_bytes hs all = ended_bytes (last_end hs) hs (found_bytes is_end hs all) all

-- ---- what a telegram brings

abbrev ContentOfBytes : Content → Type 0
ContentOfBytes (Whole message) = IsBytes message.bytes
ContentOfBytes (Part part) = IsBytes part.bytes

content_bytes : (o : Option Afl) (bytes : List ℕ) → IsBytes bytes → ContentOfBytes (content_of o bytes)
content_bytes None bytes all = all
content_bytes (Some a) bytes all =
    cond_both (is_fragment a) (Part (record { afl = a; bytes = bytes })) (Whole (record { auth = auth_in (Some a); bytes = bytes }))
    ContentOfBytes (λ _. all) (λ _. all)

message_bytes : (before : List Told) (content : Content) → All TellsBytes before → ContentOfBytes content → MessageOfBytes (message_in before content)
message_bytes before (Whole message) all bytes = bytes
message_bytes before (Part part) all bytes =
    assembled_bytes (held (Piece part ∷ before)) (held_bytes (Piece part ∷ before) (All-cons TellsBytes (Piece part) before bytes all))

abbrev BroughtOfBytes : Result (Option Message) Reason → Type 0
BroughtOfBytes (Err reason) = Unit {0}
BroughtOfBytes (Ok o) = MessageOfBytes o

brought_bytes : (before : List Told) (t : List ℕ) (r : Result Layers Reason) → All TellsBytes before → IsBytes t
    → BroughtOfBytes (brought before t r)
brought_bytes before t (Err reason) all bytes = tt
brought_bytes before t (Ok l) all bytes =
    message_bytes before (content_behind t l) all (content_bytes l.afl (drop l.body t) (bytes-drop l.body t bytes))

-- ---- what entries tell

with_bytes : (content : Content) (later : List Told) → ContentOfBytes content → All TellsBytes later → All TellsBytes (told_with content later)
with_bytes (Whole message) later bytes all = All-nil TellsBytes
with_bytes (Part part) later bytes all =
    All-append TellsBytes later (Piece part ∷ []) all (All-cons TellsBytes (Piece part) [] bytes (All-nil TellsBytes))

received_bytes : (t : List ℕ) (r : Result Layers Reason) (later : List Told) → IsBytes t → All TellsBytes later
    → All TellsBytes (told_by_received t r later)
received_bytes t (Err reason) later bytes all = All-nil TellsBytes
received_bytes t (Ok l) later bytes all =
    with_bytes (content_behind t l) later (content_bytes l.afl (drop l.body t) (bytes-drop l.body t bytes)) all

given_up_bytes : (o : Option ℕ) → All TellsBytes (given_up o)
given_up_bytes None = All-nil TellsBytes
given_up_bytes (Some counter) = All-cons TellsBytes Clear [] tt (All-nil TellsBytes)

told_by_bytes : (c : Commissioned) (event : Event) (outcome : Outcome) → HearsBytes event → All TellsBytes (told_by c event outcome)
told_by_bytes c (Hear format at t) outcome bytes =
    received_bytes t (received c.mode t) (given_up (stored_counter outcome)) bytes (given_up_bytes (stored_counter outcome))
told_by_bytes c events.Tick outcome bytes = All-cons TellsBytes Tick [] tt (All-nil TellsBytes)
told_by_bytes c _ outcome bytes = All-nil TellsBytes

told_bytes : (c : Start) (earlier : List Entry) → All TellsBytes c.told → All EntryHearsBytes earlier → All TellsBytes (told c earlier)
unfolding told
told_bytes c [] start all = start
told_bytes c (x ∷ earlier) start all =
    All-append TellsBytes (told_by (commission_of c) x.event x.outcome) (told c earlier)
    (told_by_bytes (commission_of c) x.event x.outcome (All-head EntryHearsBytes x earlier all))
    (told_bytes c earlier start (All-tail EntryHearsBytes x earlier all))

-- ---- the law

counted_by : (o : Option Found) (n : ℕ) → option_map (λ f. f.counter) o ≡ Some n → (f : Found) × (o ≡ Some f) × (f.counter ≡ n)
counted_by None n h = cc
counted_by (Some f) n h = (f, refl, cc)

brings : (c : Start) (before : List Entry) (format : Format) (at : ℕ) (t : List ℕ) (n : ℕ) → c.mode ≡ Seven
    → (r : Result (Option Message) Reason) → brought (told c (reverse before)) t (received c.mode t) ≡ r → BroughtOfBytes r
    → option_map (λ f. f.counter) (genuine c (reverse before) (Hear format at t)) ≡ Some n → BringsGenuine c before t n
brings c before format at t n m (Ok (Some message)) b bytes h =
    let there = counted_by (genuine c (reverse before) (Hear format at t)) n h in
    record {
      message = message;
      is_brought = subst (λ mode. brought (told c (reverse before)) t (received mode t) ≡ Ok (Some message)) m b;
      found = there.0;
      is_genuine = (genuine_by_mac c (reverse before) format at t message there.0 m b bytes).0 there.1;
      counter = there.2;
    }
brings c before format at t n m _ b bytes h =
    let k = rekeyed (commission_of c) (other_key c (reverse before)) in
    let is : genuine c (reverse before) (Hear format at t) ≡ None = ap (genuine_in k) b in
    cc

found_counter : (c : Start) (before : List Entry) (format : Format) (at : ℕ) (t : List ℕ) (n : ℕ) → c.mode ≡ Seven
    → BroughtOfBytes (brought (told c (reverse before)) t (received c.mode t))
    → BringsGenuine c before t n → option_map (λ f. f.counter) (genuine c (reverse before) (Hear format at t)) ≡ Some n
found_counter c before format at t n m bytes g =
    let b : brought (told c (reverse before)) t (received c.mode t) ≡ Ok (Some g.message) =
    subst (λ mode. brought (told c (reverse before)) t (received mode t) ≡ Ok (Some g.message)) (sym m) g.is_brought in
    let there = (genuine_by_mac c (reverse before) format at t g.message g.found m b (subst BroughtOfBytes b bytes)).1 g.is_genuine in
    ap (option_map (λ (f : Found). f.counter)) there ∙ ap Some g.counter

both : {A B C : Type 0} → (A → B) → (B → A) → (A × C) ↔ (B × C)
both there back = (λ p. (there p.0, p.1), λ p. (back p.0, p.1))

pub macs_decide : MacsDecide
macs_decide c own before x after m legal start earlier now format at t n is =
    let bytes =
    brought_bytes (told c (reverse before)) t (received c.mode t) (told_bytes c (reverse before) start
    (All-permutation EntryHearsBytes before (reverse before) (IsPermutation-reverse before) earlier))
    (subst HearsBytes is now) in
    let genuine_is = stored_above_last c own before x after n m legal in
    both_ways (subst (λ event. (stored_counter x.outcome ≡ Some n)
    ↔ ((option_map (λ f. f.counter) (genuine c (reverse before) event) ≡ Some n) × IsAbove n (last_stored c before))) is genuine_is)
    (both (brings c before format at t n m (brought (told c (reverse before)) t (received c.mode t)) refl bytes)
    (found_counter c before format at t n m bytes))
