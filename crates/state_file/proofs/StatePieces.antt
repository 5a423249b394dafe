-- The text of a state, piece by piece.
use Rattle.std.proofs.Common.{◌≡◌, ℕ, zero, suc, ◌+◌, ◌≤◌, Bool, true, false, cond, ◌||◌, List, [], ◌∷◌, ◌++◌, length, map, filter, reverse, codes, drop, take, slice_get, get_or, Option, Some, None, refl, ap, ap₂, sym, ◌∙◌, arith, append_assoc}
use Rattle.std.specs.List.{flat_map}
use Rattle.std.specs.Fmt.{decimal}
use Rattle.std.proofs.lemmas.Grind.{flat_map-append}
use Rattle.std.proofs.lemmas.List.{append-nil, reverse-append, map-append, drop_more, take_all, length-map}
use Rattle.std.proofs.lemmas.Option.{slice_get-get_or}
use Rattle.hex.specs.Hex.{encode_lower}
use Rattle.paper.specs.Puts.{Puts}
use Rattle.paper.proofs.Calls.{none, then, three_make, four_make, five_make, six_make}
use Rattle.paper.proofs.Items.{is_put, one_more}
use Rattle.paper.specs.Pieces.{text_if}
use Rattle.afl_fragments.specs.Fragment.{Fragment}
use Rattle.afl_fragments.specs.Held.{Told, Piece, Tick, held}
use Rattle.afl_fragments.specs.Short.{pieces, ticked, told_of, cut_down}
use Rattle.afl_fragments.specs.Places.{is_fresh, no_held}
use Rattle.afl_fragments.specs.declared.places.HeldPart.{HeldPart}
use Rattle.command_queue.specs.declared.command.Command.{Command}
use Rattle.command_queue.specs.declared.window.Window.{Window}
use Rattle.command_queue.specs.declared.window.Window.TheVariants.{Idle, Waiting}
use Rattle.meter_slots.specs.declared.reading.Reading.{Reading}
use Rattle.meter_slots.specs.Journal.{Start, commission_of}
use Rattle.roster_file.specs.Text.{meter_text}
use Rattle.roster_file.proofs.LinePieces.{own_brackets}
use Rattle.state_file.specs.Text.{line_with, bytes_text, spelt, reading_line, reading_lines, mark_line, command_fields, commands_lines}
use Rattle.state_file.specs.Written.{ended_text, block_text}
use Rattle.state_file.specs.Printing.{reading_text, readings_text, payload_text, part_text, is_kind, text_where, kind_if, some_kind, kind_text, has_kind, tick_text, marks_text, said_text, command_text, command_if, word_at, commands_text}

-- ---- a line

reading_brackets : (w a n p : List ℕ) → (w ++ 32 ∷ (a ++ 32 ∷ (n ++ 32 ∷ p))) ++ (10 ∷ [])
    ≡ (w ++ (32 ∷ [])) ++ a ++ (32 ∷ []) ++ n ++ (32 ∷ []) ++ (p ++ (10 ∷ []))
reading_brackets w a n p = simp append_assoc refl

reading_is : (r : Reading) → reading_text r
    ≡ codes "reading " ++ decimal r.at ++ codes " " ++ decimal r.counter ++ codes " " ++ payload_text r.payload
unfolding reading_text payload_text
reading_is r = reading_brackets (codes "reading") (decimal r.at) (decimal r.counter) (bytes_text r.payload)

pub reading_pieces : {P : Type 0} {takes : P → List ℕ → P → Type 0} {p q r s t u v : P} (d : Reading) → Puts takes p (codes "reading ") q → Puts takes q (decimal d.at) r
    → Puts takes r (codes " ") s → Puts takes s (decimal d.counter) t → Puts takes t (codes " ") u
    → Puts takes u (payload_text d.payload) v → Puts takes p (reading_text d) v
reading_pieces d one two three four five six = six_make (reading_text d) one two three four five six (reading_is d)

none_is : readings_text None ≡ []
unfolding readings_text
none_is = refl

one_is : (r : Reading) → readings_text (Some r) ≡ reading_text r
unfolding readings_text reading_text
one_is r = append-nil (ended_text (reading_line r))

pub no_reading : {P : Type 0} {takes : P → List ℕ → P → Type 0} {p : P} → Puts takes p (readings_text None) p
no_reading = is_put _ _ none_is none

pub one_reading : {P : Type 0} {takes : P → List ℕ → P → Type 0} {p q : P} (r : Reading) → Puts takes p (reading_text r) q → Puts takes p (readings_text (Some r)) q
one_reading r puts = is_put _ _ (one_is r) puts

part_is : (part : Fragment) → part_text part ≡ codes "part " ++ encode_lower (spelt part) ++ codes "\n"
unfolding part_text
part_is part = own_brackets (codes "part") (encode_lower (spelt part))

pub part_pieces : {P : Type 0} {takes : P → List ℕ → P → Type 0} {p q r s : P} (part : Fragment) → Puts takes p (codes "part ") q → Puts takes q (encode_lower (spelt part)) r
    → Puts takes r (codes "\n") s → Puts takes p (part_text part) s
part_pieces part one two three = three_make (part_text part) one two three (part_is part)

command_brackets : (w i t p : List ℕ) → (w ++ 32 ∷ (i ++ 32 ∷ (t ++ 32 ∷ p))) ++ (10 ∷ [])
    ≡ w ++ (32 ∷ []) ++ i ++ (32 ∷ []) ++ (t ++ (32 ∷ []) ++ p ++ (10 ∷ []))
command_brackets w i t p = simp append_assoc refl

command_is : (word : List ℕ) (d : Command) → command_text word d ≡ word ++ codes " " ++ decimal d.id ++ codes " " ++ said_text d
unfolding command_text said_text
command_is word d = command_brackets word (decimal d.id) (decimal d.tries) (encode_lower d.payload)

pub command_pieces : {P : Type 0} {takes : P → List ℕ → P → Type 0} {p q r s t u : P} (word : List ℕ) (d : Command) → Puts takes p word q → Puts takes q (codes " ") r
    → Puts takes r (decimal d.id) s → Puts takes s (codes " ") t → Puts takes t (said_text d) u → Puts takes p (command_text word d) u
command_pieces word d one two three four five = five_make (command_text word d) one two three four five (command_is word d)

-- ---- fragments

abbrev marks_of : List Told → List ℕ
marks_of ms = flat_map ended_text (map mark_line (reverse ms))

marks_join : (xs ys : List Told) → marks_of (xs ++ ys) ≡ marks_of ys ++ marks_of xs
marks_join xs ys =
    ap (λ ms. flat_map ended_text (map mark_line ms)) (reverse-append xs ys)
    ∙ ap (flat_map ended_text) (map-append mark_line (reverse ys) (reverse xs))
    ∙ flat_map-append ended_text (map mark_line (reverse ys)) (map mark_line (reverse xs))

marks_more : (m : Told) (ms : List Told) → marks_of (m ∷ ms) ≡ marks_of ms ++ ended_text (mark_line m)
marks_more m ms = marks_join (m ∷ []) ms ∙ ap (λ t. marks_of ms ++ t) (append-nil (ended_text (mark_line m)))

kind_more : (b : Bool) (h : HeldPart) (hs : List HeldPart)
    → marks_of (pieces (cond b (h ∷ hs) hs)) ≡ marks_of (pieces hs) ++ text_where b h
unfolding part_text
kind_more true h hs = marks_more (Piece h.part) (pieces hs)
kind_more false h hs = sym (append-nil (marks_of (pieces hs)))

kind_is : (fresh : Bool) (hs : List HeldPart) → marks_of (pieces (filter (is_kind fresh) hs)) ≡ kind_text fresh hs
kind_is fresh [] = refl
kind_is fresh (h ∷ hs) =
    kind_more (is_kind fresh h) h (filter (is_kind fresh) hs) ∙ ap (λ t. t ++ text_where (is_kind fresh h) h) (kind_is fresh hs)

abbrev has_one : {A : Type 0} → List A → Bool
has_one [] = false
has_one (x ∷ xs) = true

some_more : {A : Type 0} (b c : Bool) (x : A) (xs : List A) → has_one xs ≡ c → has_one (cond b (x ∷ xs) xs) ≡ (b || c)
some_more true c x xs h = refl
some_more false c x xs h = h

has_is : (fresh : Bool) (hs : List HeldPart) → has_one (filter (is_kind fresh) hs) ≡ has_kind fresh hs
has_is fresh [] = refl
has_is fresh (h ∷ hs) = some_more (is_kind fresh h) (has_kind fresh hs) h (filter (is_kind fresh) hs) (has_is fresh hs)

ticked_is : (hs : List HeldPart) → marks_of (ticked hs) ≡ marks_of (pieces hs) ++ tick_text (has_one hs)
ticked_is [] = refl
ticked_is (h ∷ hs) = marks_more Tick (pieces (h ∷ hs))

marks_are : (hs : List HeldPart) → marks_of (told_of hs) ≡ marks_text hs
unfolding marks_text
marks_are hs =
    let olds = filter (is_kind false) hs in
    marks_join (pieces (filter is_fresh hs)) (ticked olds)
    ∙ ap (λ t. t ++ marks_of (pieces (filter is_fresh hs))) (ticked_is olds ∙ ap (λ t. t ++ tick_text (has_one olds)) (kind_is false hs)
    ∙ ap (λ b. kind_text false hs ++ tick_text b) (has_is false hs))
    ∙ ap (λ t. (kind_text false hs ++ tick_text (has_kind false hs)) ++ t) (kind_is true hs)

-- ---- loops

pub kind_step : {P : Type 0} {takes : P → List ℕ → P → Type 0} {p q r : P} (fresh : Bool) (hs : List HeldPart) (n left : ℕ)
    (o : Option HeldPart) (any one now : Bool) → n + 1 ≡ left → left ≤ length hs → o ≡ slice_get hs n
    → Puts takes p (kind_text fresh (drop left hs)) q → Puts takes q (kind_if fresh o) r → any ≡ has_kind fresh (drop left hs)
    → one ≡ some_kind fresh o → now ≡ (one || any)
    → Puts takes p (kind_text fresh (drop n hs)) r × (now ≡ has_kind fresh (drop n hs)) × (n ≤ length hs)
kind_step fresh hs n left o any one now up within is before put have same either =
    let h : HeldPart = get_or hs n no_held in
    let rest = drop left hs in
    let found : o ≡ Some h = is ∙ slice_get-get_or hs n no_held (omega arith) in
    let all : drop n hs ≡ h ∷ rest = drop_more hs n no_held (omega arith) ∙ ap (λ m. h ∷ drop m hs) up in (
      is_put (kind_text fresh (drop n hs)) (kind_text fresh rest ++ kind_if fresh o) (ap (kind_text fresh) all
          ∙ ap (λ p. kind_text fresh rest ++ kind_if fresh p) (sym found)) (then before put),
      either ∙ ap₂ ◌||◌ (same ∙ ap (some_kind fresh) found) have ∙ sym (ap (has_kind fresh) all),
      omega arith,
    )

later_at : (cs : List Command) (i : ℕ)
    → text_if ended_text (slice_get (map (λ d. line_with (codes "command") (command_fields d)) cs) i) ≡ command_if (codes "command") (slice_get cs i)
unfolding command_text
later_at [] i = refl
later_at (c ∷ cs) zero = refl
later_at (c ∷ cs) (suc i) = later_at cs i

command_at : (w : Window) (cs : List Command) (i : ℕ)
    → text_if ended_text (slice_get (commands_lines w cs) i) ≡ command_if (word_at w i) (slice_get cs i)
unfolding command_text
command_at w [] i = refl
command_at Idle (c ∷ cs) zero = refl
command_at Idle (c ∷ cs) (suc i) = later_at cs i
command_at (Waiting id) (c ∷ cs) zero = refl
command_at (Waiting id) (c ∷ cs) (suc i) = later_at cs i

pub command_step : {P : Type 0} {takes : P → List ℕ → P → Type 0} {p q r : P} (w : Window) (cs : List Command) (i : ℕ) (word : List ℕ) (o : Option Command)
    → word ≡ word_at w i → o ≡ slice_get cs i → Puts takes p (flat_map ended_text (take i (commands_lines w cs))) q
    → Puts takes q (command_if word o) r → Puts takes p (flat_map ended_text (take (i + 1) (commands_lines w cs))) r
command_step w cs i word o named is before one =
    one_more ended_text (commands_lines w cs) i (slice_get (commands_lines w cs) i) refl before
    (is_put _ _ (command_at w cs i ∙ ap (command_if (word_at w i)) (sym is) ∙ ap (λ x. command_if x o) (sym named)) one)

pub commands_count : (w : Window) (cs : List Command) → length (commands_lines w cs) ≡ length cs
commands_count w [] = refl
commands_count Idle (c ∷ cs) = let same = length-map cs (λ d. line_with (codes "command") (command_fields d)) in omega arith
commands_count (Waiting id) (c ∷ cs) = let same = length-map cs (λ d. line_with (codes "command") (command_fields d)) in omega arith

pub commands_end : {P : Type 0} {takes : P → List ℕ → P → Type 0} {p q : P} (w : Window) (cs : List Command) (i : ℕ) → length cs ≤ i
    → Puts takes p (flat_map ended_text (take i (commands_lines w cs))) q → Puts takes p (commands_text w cs) q
unfolding commands_text
commands_end w cs i all puts =
    is_put (commands_text w cs) _ (ap (flat_map ended_text) (sym (take_all i (commands_lines w cs) (let same = commands_count w cs in omega arith)))) puts

-- ---- a meter

block_is : (c : Start) → cut_down c.told ≡ c.told → block_text c
    ≡ meter_text (commission_of c) ++ readings_text c.reading ++ marks_text (held c.told) ++ commands_text c.orders.window c.orders.queue.commands
unfolding block_text readings_text commands_text
block_is c short =
    let k = meter_text (commission_of c) in
    let read = reading_lines c.reading in
    let marks = map mark_line (reverse c.told) in
    let commands = commands_lines c.orders.window c.orders.queue.commands in
    let told : marks_of c.told ≡ marks_text (held c.told) = ap marks_of (sym short) ∙ marks_are (held c.told) in
    ap (λ t. k ++ t) (flat_map-append ended_text (read ++ marks) commands
    ∙ ap (λ t. t ++ flat_map ended_text commands) (flat_map-append ended_text read marks
    ∙ ap (λ t. flat_map ended_text read ++ t) told))
    ∙ sym (append_assoc k (flat_map ended_text read ++ marks_text (held c.told)) (flat_map ended_text commands))
    ∙ ap (λ t. t ++ flat_map ended_text commands) (sym (append_assoc k (flat_map ended_text read) (marks_text (held c.told))))

pub block_pieces : {P : Type 0} {takes : P → List ℕ → P → Type 0} {p q r s t : P} (c : Start) → cut_down c.told ≡ c.told → Puts takes p (meter_text (commission_of c)) q
    → Puts takes q (readings_text c.reading) r → Puts takes r (marks_text (held c.told)) s
    → Puts takes s (commands_text c.orders.window c.orders.queue.commands) t → Puts takes p (block_text c) t
block_pieces c short one two three four = four_make (block_text c) one two three four (block_is c short)
