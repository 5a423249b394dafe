-- The orders that the text of a report tells.
use Rattle.std.proofs.Common.{◌≡◌, ℕ, ◌-◌, List, [], ◌∷◌, ◌++◌, map, reverse, length, Option, Some, None, refl, sym, ap, ◌∙◌}
use Rattle.std.proofs.Common.{append_assoc, append-nil}
use Rattle.std.specs.Prelude.{codes, slice_get}
use Rattle.std.specs.List.{All, AllByRecursion, flat_map, enumerate_from}
use Rattle.std.proofs.lemmas.List.Elements.{recursion_from_All}
use Rattle.meter_address.specs.declared.commission.Mode.{Mode}
use Rattle.meter_address.specs.declared.commission.Mode.TheVariants.{Five, Seven}
use Rattle.meter_address.specs.declared.address.Address.{Address}
use Rattle.meter_address.specs.Address.{bytes_of}
use Rattle.command_queue.specs.declared.command.Command.{Command}
use Rattle.stranger_ring.specs.declared.strangers.Heard.{Heard}
use Rattle.stranger_ring.specs.Ring.{ring_of}
use Rattle.meter_slots.specs.declared.counts.Counts.{Counts}
use Rattle.meter_slots.specs.declared.counts.Ended.{Ended}
use Rattle.meter_slots.specs.declared.counts.Ended.TheVariants as ends
use Rattle.meter_slots.specs.declared.entry.Entry.{Entry}
use Rattle.meter_slots.specs.declared.reading.Reading.{Reading}
use Rattle.meter_slots.specs.Journal.{SlotView, last_counter, readings}
use Rattle.record_text.specs.RecordText.{records_text}
use Rattle.report_text.specs.declared.lent.ReceiverEnd.{ReceiverEnd}
use Rattle.report_text.specs.Orders.{Told, lines_in, told, orders, with_line, with_steps, meter_heading, strangers_heading}
use Rattle.report_text.specs.OrdersLaw.{IsCounted, place_of_step, place_of_stranger, order_of, orders_of}
use Rattle.paper.specs.Pieces.{optional_text, labelled, labelled_two, labelled_bytes, text_if}
use Rattle.report_text.specs.Report.{ended_text, counts_text, receiver_text, mode_text, commission_text, numbers_text, answered_text, step_text}
use Rattle.report_text.specs.Report.{readings_after, steps_text, last_text, pending_text, journal_text, orders_now, meter_text}
use Rattle.report_text.specs.Report.{stranger_text, ring_text, strangers_text, report_text}
use Rattle.report_text.proofs.LineWalks.{IsWithout, ◌⌢◌, literal, Tells, nothing, ◌⨾◌, one_line, same_text, Others, no_others, ◌⨟◌, one_other, others_pass}
use Rattle.report_text.proofs.LinePieces.{letters, worded_number, worded_two, worded_bytes, pieces}
use Rattle.report_text.proofs.LineOutcomes.{outcome_is}
use Rattle.report_text.proofs.LineRecords.{records_others}
use Rattle.report_text.proofs.LineSteps.{step_line, stranger_line}

-- ---- texts of lines that belong to no list

pub all_others : {X : Type 0} (text : X → List ℕ) → ((x : X) → Others (text x)) → (xs : List X) → Others (flat_map text xs)
all_others text h [] = no_others
all_others text h (x ∷ xs) = h x ⨟ all_others text h xs

if_others : {X : Type 0} (text : X → List ℕ) → ((x : X) → Others (text x)) → (o : Option X) → Others (text_if text o)
if_others text h None = no_others
if_others text h (Some x) = h x

-- ---- receivers

ended_is : (ended : Ended) → IsWithout 10 (ended_text ended)
ended_is ends.End = record { passed = refl }
ended_is _ = record { passed = refl }

counts_is : (n : Counts) → IsWithout 10 (counts_text n)
unfolding counts_text
counts_is n = search pieces depth 9

pub receiver_others : (r : ℕ × ReceiverEnd) → Others (receiver_text r)
unfolding receiver_text labelled
receiver_others r = one_other _
    (worded_number (literal (codes "receiver ") refl) r.0 ⌢ counts_is r.1.counts ⌢ literal (codes " ") refl ⌢ ended_is r.1.ended) (search)

-- ---- a meter

mode_is : (mode : Mode) → IsWithout 10 (mode_text mode)
mode_is Five = literal (codes "5") refl
mode_is Seven = literal (codes "7") refl

pub commission_is : (a : Address) (mode : Mode) → IsWithout 10 (commission_text a mode)
unfolding commission_text
commission_is a mode = search (pieces, letters, mode_is) depth 9

-- a meter's line without its newline
abbrev pub numbers_front : Option ℕ → ℕ → ℕ → ℕ → List ℕ
numbers_front last down steps kept =
    codes " last " ++ optional_text last ++ labelled (codes " down ") down ++ labelled (codes " steps ") steps ++ labelled
    (codes " readings ") kept

pub numbers_is : (last : Option ℕ) (down steps kept : ℕ) → IsWithout 10 (numbers_front last down steps kept)
numbers_is last down steps kept = search pieces depth 9

meter_line : (a : Address) (mode : Mode) (last : Option ℕ) (down steps kept : ℕ)
    → Tells (commission_text a mode ++ numbers_text last down steps kept) meter_heading
unfolding commission_text labelled_bytes numbers_text with_line
meter_line a mode last down steps kept =
    same_text _ (sym (append_assoc (commission_text a mode) (numbers_front last down steps kept) (codes "\n")))
    (one_line (commission_text a mode ++ numbers_front last down steps kept) (commission_is a mode ⌢ numbers_is last down steps kept))

step_tells : (reading : Option Reading) (e : Entry) → IsCounted (place_of_step e)
    → Tells (step_text reading e) (with_steps (place_of_step e ∷ []))
unfolding answered_text
step_tells reading e small = step_line e.source e.line _ small.0 small.1 (outcome_is reading e.outcome)

steps_tell : (kept : List Reading) (journal : List Entry) → AllByRecursion IsCounted (map place_of_step journal)
    → Tells (steps_text kept journal) (with_steps (map place_of_step journal))
steps_tell kept [] small = nothing
steps_tell kept (e ∷ later) small = step_tells (slice_get kept 0) e small.0 ⨾ steps_tell (readings_after e.outcome kept) later small.1

last_others : (kept : List Reading) → Others (last_text kept)
unfolding last_text
last_others kept = if_others (λ r. records_text r.payload) (λ r. records_others r.payload) (slice_get kept (length kept - 1))

pending_others : (c : Command) → Others (pending_text c)
unfolding pending_text labelled_two
pending_others c = one_other _ (worded_two (literal (codes "pending ") refl) c.id c.tries) (search)

-- what stands behind a journal's steps
pub behind_steps : (kept : List Reading) (commands : List Command) → Others (last_text kept ++ flat_map pending_text commands)
behind_steps kept commands = last_others kept ⨟ all_others pending_text pending_others commands

journal_tells : (kept : List Reading) (journal : List Entry) (commands : List Command)
    → AllByRecursion IsCounted (map place_of_step journal)
    → Tells (journal_text kept journal commands) (with_steps (map place_of_step journal))
unfolding journal_text
journal_tells kept journal commands small =
    steps_tell kept journal small ⨾ others_pass (last_others kept) ⨾ others_pass (all_others pending_text pending_others commands)

meter_tells : (b : SlotView) → AllByRecursion IsCounted (order_of b) → Tells (meter_text b) (λ t. meter_heading (with_steps (order_of b) t))
unfolding meter_text
meter_tells b small =
    meter_line b.start.address b.start.mode (last_counter b.start (reverse b.journal)) (orders_now b).down
    (length b.journal) (length (readings b.start b.journal))
    ⨾ journal_tells (readings b.start b.journal) b.journal (orders_now b).queue.commands small

-- the meters, one after another
abbrev with_meters : List SlotView → Told → Told
with_meters [] t = t
with_meters (b ∷ slots) t = meter_heading (with_steps (order_of b) (with_meters slots t))

meters_tell : (slots : List SlotView) → AllByRecursion (λ order. All IsCounted order) (map order_of slots)
    → Tells (flat_map meter_text slots) (with_meters slots)
meters_tell [] small = nothing
meters_tell (b ∷ slots) small = meter_tells b (recursion_from_All IsCounted (order_of b) small.0) ⨾ meters_tell slots small.1

-- below the meters no steps stand above the first heading
with_meters_is : (slots : List SlotView) (strangers : List (ℕ × ℕ))
    → with_meters slots (record { above = []; meters = []; strangers = strangers }) ≡ record
    { above = []; meters = map order_of slots; strangers = strangers }
with_meters_is [] strangers = refl
with_meters_is (b ∷ slots) strangers =
    ap (λ t. meter_heading (with_steps (order_of b) t)) (with_meters_is slots strangers)
    ∙ ap (λ order. record { above = []; meters = order ∷ map order_of slots; strangers = strangers }) (append-nil (order_of b))

-- ---- the strangers

strangers_line : (n : ℕ) → Tells (labelled (codes "strangers ") n ++ codes "\n") strangers_heading
unfolding labelled with_line
strangers_line n = one_line (labelled (codes "strangers ") n) (worded_number (literal (codes "strangers ") refl) n)

stranger_tells : (h : Heard) → IsCounted (place_of_stranger h) → Tells (stranger_text h) (with_steps (place_of_stranger h ∷ []))
unfolding stranger_text
stranger_tells h small = stranger_line h.source h.line small.0 small.1

all_strangers_tell : (heard : List Heard) → AllByRecursion IsCounted (map place_of_stranger heard)
    → Tells (flat_map stranger_text heard) (with_steps (map place_of_stranger heard))
all_strangers_tell [] small = nothing
all_strangers_tell (h ∷ heard) small = stranger_tells h small.0 ⨾ all_strangers_tell heard small.1

ring_others : (a : Address) → Others (ring_text a)
unfolding ring_text labelled_bytes
ring_others a = one_other _ (worded_bytes (literal (codes "ring ") refl) (bytes_of a)) (search)

pub rings_others : (heard : List Heard) → Others (flat_map ring_text (ring_of heard))
rings_others heard = all_others ring_text ring_others (ring_of heard)

strangers_tell : (heard : List Heard) → AllByRecursion IsCounted (map place_of_stranger heard)
    → Tells (strangers_text heard) (λ t. strangers_heading (with_steps (map place_of_stranger heard) t))
unfolding strangers_text
strangers_tell heard small = strangers_line (length heard) ⨾ all_strangers_tell heard small ⨾ others_pass (rings_others heard)

-- ---- the report

pub head_others : (ends : List ReceiverEnd) → Others (codes "wmbus-report 1\n" ++ flat_map receiver_text (enumerate_from 1 ends))
head_others ends =
    one_other (codes "wmbus-report 1") (literal (codes "wmbus-report 1") refl) (search)
    ⨟ all_others receiver_text receiver_others (enumerate_from 1 ends)

pub end_others : Others (codes "end\n")
end_others = one_other (codes "end") (literal (codes "end") refl) (search)

abbrev no_lines : Told
no_lines = record { above = []; meters = []; strangers = [] }

nothing_told : told (lines_in []) ≡ no_lines
unfolding with_line
nothing_told = refl

report_tells : (ends : List ReceiverEnd) (slots : List SlotView) (heard : List Heard)
    → AllByRecursion (λ order. All IsCounted order) (map order_of slots) → AllByRecursion IsCounted (map place_of_stranger heard)
    → Tells (report_text ends slots heard) (λ t. with_meters slots (strangers_heading (with_steps (map place_of_stranger heard) t)))
unfolding report_text
report_tells ends slots heard small_steps small_heard =
    others_pass (head_others ends) ⨾ meters_tell slots small_steps ⨾ strangers_tell heard small_heard ⨾ others_pass end_others

pub report_orders : (ends : List ReceiverEnd) (slots : List SlotView) (heard : List Heard)
    → All (λ order. All IsCounted order) (map order_of slots) → All IsCounted (map place_of_stranger heard)
    → orders (report_text ends slots heard) ≡ orders_of slots heard
report_orders ends slots heard small_steps small_heard =
    let text = report_text ends slots heard in
    let places = map place_of_stranger heard in
    let turned : told (lines_in (text ++ [])) ≡ with_meters slots (strangers_heading (with_steps places (told (lines_in [])))) =
    (report_tells ends slots heard (recursion_from_All (λ order. All IsCounted order) (map order_of slots) small_steps)
    (recursion_from_All IsCounted places small_heard)).at [] in
    let whole : told (lines_in text) ≡ record { above = []; meters = map order_of slots; strangers = places } =
    ap (λ t. told (lines_in t)) (sym (append-nil text)) ∙ turned
    ∙ ap (λ t. with_meters slots (strangers_heading (with_steps places t))) nothing_told
    ∙ ap (λ strangers. with_meters slots (record { above = []; meters = []; strangers = strangers }))
    (append-nil (places ++ []) ∙ append-nil places)
    ∙ with_meters_is slots places in
    ap (λ all. record { meters = all.meters; strangers = all.strangers }) whole
