-- What is told of a meter follows from the events of its own lines alone.
use Rattle.std.proofs.Common.{◌≡◌, ◌==◌, ◌+◌, ℕ, Bool, true, false, cond, List, [], ◌∷◌, ◌++◌, map, filter, reverse, refl, sym, ap, ◌∙◌, subst}
use Rattle.std.specs.Prelude.{slice_get}
use Rattle.std.specs.List.{enumerate_from}
use Rattle.std.proofs.lemmas.List.{append-nil, append_cancel_left, reverse-append}
use Rattle.meter_address.specs.declared.address.Address.{Address}
use Rattle.meter_slots.specs.declared.entry.Entry.{Entry}
use Rattle.meter_slots.specs.declared.entry.Event.{Event}
use Rattle.meter_slots.specs.declared.reading.Reading.{Reading}
use Rattle.meter_slots.specs.declared.step.Step.{Step}
use Rattle.meter_slots.specs.Journal.{Start, SlotView, IsJudged, Legal, commission_of, standing, outcome, stored, reading_of, readings, readings_back}
use Rattle.meter_slots.specs.Laws.{call_in}
use Rattle.meter_worlds.specs.PassingWorld.{has_steps}
use Rattle.meter_slots.specs.Resuming.{known_now, resumed}
use Rattle.meter_slots.specs.World.{Call, call_of, calls_of, fresh_slot, is_for, journal_of}
use Rattle.meter_slots.proofs.Cuts.{legal_through, readings_of_all}
use Rattle.meter_slots.proofs.JournalLaws.{journal_is, journal_of_legal}
use Rattle.meter_slots.proofs.Renumbering.{legal_renumbered, resumed_renumbered}
use Rattle.receivers.specs.Alone.{steps_among, steps_of}
use Rattle.receivers.specs.declared.told.Told.{Told}
use Rattle.receivers.specs.declared.told.Told.TheVariants as told
use Rattle.receivers.proofs.OneSession.{journal_calls}
use Rattle.step_text.specs.Lines.{block_line}
use Rattle.steps_main.specs.Laws.{events_for, OwnLinesAlone}
use Rattle.steps_main.specs.Steps.{slot_behind, served_by, block_told}

-- ---- a meter's events

abbrev event_in : Call → Event
event_in k = k.event

events_among : (a : Address) (n : ℕ) (heard : List Told)
    → map event_in (calls_of a (steps_among 1 (enumerate_from n heard))) ≡ events_for a heard
unfolding steps_among
events_among a n [] = refl
events_among a n (told.Event b e ∷ heard) = at (b.0 == a.0) (events_among a (n + 1) heard)
  where
    later : List Step
    later = steps_among 1 (enumerate_from (n + 1) heard)

    at : (t : Bool) → map event_in (map call_of (filter (is_for a) later)) ≡ events_for a heard
        → map event_in (map call_of (cond t (record { source = 1; line = n; address = b; event = e } ∷ filter (is_for a) later)
        (filter (is_for a) later))) ≡ cond t (e ∷ events_for a heard) (events_for a heard)
    at true h = ap (λ es. e ∷ es) h
    at false h = h
events_among a n (told.Unframed ∷ heard) = events_among a (n + 1) heard
events_among a n (told.Bad ∷ heard) = events_among a (n + 1) heard

-- ---- journals without numbers

abbrev plain : Entry → Entry
plain x = record { source = 0; line = 0; event = x.event; outcome = x.outcome }

abbrev call_for : Event → Call
call_for e = record { source = 0; line = 0; event = e }

plain_calls : (journal : List Entry) → map call_in (map plain journal) ≡ map call_for (map event_in (map call_in journal))
plain_calls [] = refl
plain_calls (x ∷ journal) = ap (λ ks. call_for x.event ∷ ks) (plain_calls journal)

-- without its numbers a journal is that of the events alone
plain_journal : (c : Start) (own : Address) (calls : List Call)
    → map plain (journal_of c own calls) ≡ journal_of c own (map call_for (map event_in calls))
plain_journal c own calls =
    let journal = journal_of c own calls in
    journal_is c own (map plain journal) (legal_renumbered plain (λ x. refl) (λ x. refl) c own journal (journal_of_legal c own calls))
    ∙ ap (journal_of c own) (plain_calls journal ∙ ap (λ ks. map call_for (map event_in ks)) (journal_calls c own calls))

some_steps : (journal : List Entry) → has_steps (map plain journal) ≡ has_steps journal
some_steps [] = refl
some_steps (x ∷ journal) = refl

-- ---- what is answered, by what is known

module _ (c : Start) (own : Address) (journal : List Entry) (legal : Legal c own journal) (e : Event) where
  abbrev slot : SlotView
  slot = record { own = own; start = c; journal = journal }

  abbrev x : Entry
  x = record { source = 0; line = 0; event = e; outcome = outcome c own (reverse journal) e }

  longer : Legal c own (journal ++ x ∷ [])
  longer = subst (IsJudged c own) (sym (reverse-append journal (x ∷ []))) (refl, legal)

  outcome_now : outcome c own (reverse journal) e ≡ outcome (resumed c journal) own [] e
  outcome_now = ((legal_through c own journal ((x ∷ []) ∷ [])).1 longer).1.0.0

  abbrev adds : Start → List Entry → List Reading
  adds s earlier = reading_of e (stored (commission_of s) (standing s earlier) e)

  readings_now : adds c (reverse journal) ≡ adds (resumed c journal) []
  unfolding readings
  readings_now =
      append_cancel_left (readings_back c (reverse journal)) (adds c (reverse journal)) (adds (resumed c journal) [])
      (sym (ap (readings_back c) (reverse-append journal (x ∷ [])))
      ∙ readings_of_all c journal ((x ∷ []) ∷ [])
      ∙ ap (λ rs. readings_back c (reverse journal) ++ rs) (append-nil (adds (resumed c journal) [])))

  -- what a slot answers is what one answers that begins with what is known of its meter
  served_now : served_by slot e ≡ served_by (fresh_slot own (known_now slot)) e
  served_now = λ i. record { outcome = outcome_now i; reading = slice_get (readings_now i) 0 }

-- ---- the law

module _ (own : Address) (c : Start) (before others : List Told) (same : events_for c.address before ≡ events_for c.address others) where
  abbrev calls : List Told → List Call
  calls heard = calls_of c.address (steps_of 1 heard)

  abbrev journal : List Told → List Entry
  journal heard = journal_of c own (calls heard)

  journals : map plain (journal before) ≡ map plain (journal others)
  journals =
      plain_journal c own (calls before)
      ∙ ap (λ es. journal_of c own (map call_for es))
      (events_among c.address 1 before ∙ same ∙ sym (events_among c.address 1 others))
      ∙ sym (plain_journal c own (calls others))

  known : known_now (slot_behind own before c) ≡ known_now (slot_behind own others c)
  known =
      sym (resumed_renumbered plain (λ x. refl) (λ x. refl) c (journal before)) ∙ ap (resumed c) journals
      ∙ resumed_renumbered plain (λ x. refl) (λ x. refl) c (journal others)

  served : (e : Event) → served_by (slot_behind own before c) e ≡ served_by (slot_behind own others c) e
  served e =
      served_now c own (journal before) (journal_of_legal c own (calls before)) e
      ∙ ap (λ k. served_by (fresh_slot own k) e) known
      ∙ sym (served_now c own (journal others) (journal_of_legal c own (calls others)) e)

  steps : has_steps (journal before) ≡ has_steps (journal others)
  steps = sym (some_steps (journal before)) ∙ ap has_steps journals ∙ some_steps (journal others)

  block : block_told (slot_behind own before c) ≡ block_told (slot_behind own others c)
  block =
      ap (λ t. cond t (block_line (known_now (slot_behind own before c))) []) steps
      ∙ ap (λ k. cond (has_steps (journal others)) (block_line k) []) known

pub own_alone : OwnLinesAlone
own_alone own c before others same = record { served = served own c before others same; block = block own c before others same }
