-- Closes `macs_decide_over_all_receivers`: each entry of a meter's journal is one of its receivers' lines, and these are bytes.
use Rattle.std.proofs.Common.{◌≡◌, ℕ, ◌+◌, ◌==◌, Bool, true, false, cond, List, [], ◌∷◌, ◌++◌, map, filter, filter_map, Some, None, refl, subst}
use Rattle.std.specs.List.{All, enumerate_from, cons_option}
use Rattle.std.proofs.lemmas.Bool.{eq-eqb}
use Rattle.std.proofs.lemmas.List.Elements.{All-nil, All-cons, All-head, All-tail, All-same}
use Rattle.meter_address.specs.declared.address.Address.{Address}
use Rattle.meter_slots.specs.declared.entry.Entry.{Entry}
use Rattle.meter_slots.specs.declared.entry.Event.{Event}
use Rattle.meter_slots.specs.Journal.{Legal}
use Rattle.meter_slots.specs.MacLaw.{HearsBytes, EntryHearsBytes}
use Rattle.meter_slots.proofs.MacLaws.{macs_decide}
use Rattle.receivers.specs.declared.told.Told.{Told}
use Rattle.receivers.specs.declared.told.Told.TheVariants as told
use Rattle.receivers.specs.Session.{heard_from, heard_by, event_at, lines_for, steps_by}
use Rattle.receivers.specs.MacLaw.{SaysBytes, AllSayBytes, MacsDecideOverAllReceivers}

abbrev LineHears : ℕ × Event → Type 0
LineHears l = HearsBytes l.1

-- ---- a meter's own lines

own_line : (b : Bool) (line : ℕ) (event : Event) (rest : List (ℕ × Event)) → HearsBytes event → All LineHears rest
    → All LineHears (cons_option (cond b (Some (line, event)) None) rest)
own_line true line event rest bytes all = All-cons LineHears (line, event) rest bytes all
own_line false line event rest bytes all = all

line_hears : (a : Address) (line : ℕ) (t : Told) (rest : List (ℕ × Event)) → SaysBytes t → All LineHears rest
    → All LineHears (cons_option (event_at a line t) rest)
line_hears a line (told.Event address event) rest bytes all = own_line (a.0 == address.0) line event rest bytes all
line_hears a line _ rest bytes all = all

lines_hear : (a : Address) (n : ℕ) (heard : List Told) → All SaysBytes heard
    → All LineHears (filter_map (λ l. event_at a l.0 l.1) (enumerate_from n heard))
lines_hear a n [] all = All-nil LineHears
lines_hear a n (t ∷ heard) all =
    line_hears a n t (filter_map (λ l. event_at a l.0 l.1) (enumerate_from (n + 1) heard)) (All-head SaysBytes t heard all)
    (lines_hear a (n + 1) heard (All-tail SaysBytes t heard all))

one_receiver : (b : Bool) (heard rest : List Told) → All SaysBytes heard → All SaysBytes rest → All SaysBytes (cond b heard rest)
one_receiver true heard rest one other = one
one_receiver false heard rest one other = other

receiver_says : (n w : ℕ) (all : List (List Told)) → All AllSayBytes all → All SaysBytes (heard_from n w all)
receiver_says n w [] says = All-nil SaysBytes
receiver_says n w (heard ∷ later) says =
    one_receiver (n == w) heard (heard_from (n + 1) w later) (All-head AllSayBytes heard later says)
    (receiver_says (n + 1) w later (All-tail AllSayBytes heard later says))

-- ---- the journal

step_in : Entry → ℕ × Event
step_in x = (x.line, x.event)

rest_hears : (b : Bool) (x : Entry) (xs : List Entry) → All LineHears (map (λ y. (y.line, y.event)) (cond b (x ∷ xs) xs))
    → All LineHears (map (λ y. (y.line, y.event)) xs)
rest_hears true x xs all = All-tail LineHears (x.line, x.event) (map (λ y. (y.line, y.event)) xs) all
rest_hears false x xs all = all

first_hears : (b : Bool) (x : Entry) (xs : List Entry) → b ≡ true
    → All LineHears (map (λ y. (y.line, y.event)) (cond b (x ∷ xs) xs)) → HearsBytes x.event
first_hears true x xs is all = All-head LineHears (x.line, x.event) (map (λ y. (y.line, y.event)) xs) all
first_hears false x xs is all = absurd (cc is)

journal_hears : (journal : List Entry) → ((w : ℕ) → All LineHears (steps_by w journal)) → All EntryHearsBytes journal
journal_hears [] hears = All-nil EntryHearsBytes
journal_hears (x ∷ journal) hears =
    All-cons EntryHearsBytes x journal
    (first_hears (x.source == x.source) x (filter (λ y. y.source == x.source) journal) (eq-eqb x.source x.source refl) (hears x.source))
    (journal_hears journal (λ w. rest_hears (x.source == w) x (filter (λ y. y.source == w) journal) (hears w)))

-- ---- the law

up_to : (before : List Entry) (x : Entry) (after : List Entry) → All EntryHearsBytes (before ++ x ∷ after)
    → All EntryHearsBytes before × EntryHearsBytes x
up_to [] x after all = (All-nil EntryHearsBytes, All-head EntryHearsBytes x after all)
up_to (y ∷ before) x after all =
    let rest = up_to before x after (All-tail EntryHearsBytes y (before ++ x ∷ after) all) in
    (All-cons EntryHearsBytes y before (All-head EntryHearsBytes y (before ++ x ∷ after) all) rest.0, rest.1)

pub macs_decide_over_all_receivers : MacsDecideOverAllReceivers
macs_decide_over_all_receivers own c all slot is start says m before x after parts =
    let hears : All EntryHearsBytes slot.journal = journal_hears slot.journal (λ w. All-same LineHears (steps_by w slot.journal)
    (lines_for c.address (heard_by w all)) (is.lines w) (lines_hear c.address 1 (heard_by w all) (receiver_says 1 w all says))) in
    let two = up_to before x after (subst (All EntryHearsBytes) parts hears) in
    macs_decide c own before x after m (subst (Legal c own) parts is.legal) start two.0 two.1
