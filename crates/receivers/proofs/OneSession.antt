-- A receiver that is heard alone, in a world before any step, makes a session of just its lines.
use Rattle.std.proofs.Common.{◌≡◌, ◌==◌, ℕ, List, [], ◌∷◌, ◌++◌, map, filter, reverse, not, Bool, true, false, cond, Some, None, refl, sym, ap, ◌∙◌, subst, append_assoc, append-nil}
use Rattle.std.specs.List.{filter_map, cons_option, enumerate_from}
use Rattle.std.proofs.lemmas.List.{reverse-reverse}
use Rattle.std.proofs.lemmas.Simd.{map-map}
use Rattle.lists.proofs.Places.{map-reverse}
use Rattle.receivers.proofs.Picked.{filter-map, picked_if}
use Rattle.meter_slots.specs.Journal.{Start}
use Rattle.meter_address.specs.declared.address.Address.{Address}
use Rattle.meter_slots.specs.declared.entry.Entry.{Entry}
use Rattle.meter_slots.specs.declared.entry.Event.{Event}
use Rattle.meter_slots.specs.declared.step.Step.{Step}
use Rattle.meter_slots.specs.Laws.{call_in}
use Rattle.meter_slots.specs.World.{Call, call_of, judged_journal, journal_of, is_for, calls_of, slot_of, heard_of, strangers_of, is_commissioned, WorldView, world_of, address_of_slot}
use Rattle.meter_slots.proofs.JournalLaws.{journal_of_legal}
use Rattle.meter_slots.proofs.Worlds.{eqb_swap, after_push}
use Rattle.stranger_ring.specs.declared.strangers.Heard.{Heard}
use Rattle.receivers.specs.declared.told.Told.{Told}
use Rattle.receivers.specs.declared.told.Told.TheVariants as told
use Rattle.receivers.specs.Alone.{steps_among, steps_of, after_steps, addresses_in, HasHeardAlone}
use Rattle.receivers.specs.Run.{Hearing, HasHeard}
use Rattle.lists.specs.Each.{EachWith}
use Rattle.receivers.specs.Session.{heard_by, event_at, lines_for, stranger_at, lines_of_strangers, steps_by, notes_by, IsMetersSlot, IsSession}

-- ---- a world after some steps

pub world_after : (own : Address) (cs : List Start) (before steps : List Step)
    → after_steps (world_of own cs before) steps ≡ world_of own cs (before ++ steps)
world_after own cs before [] = ap (world_of own cs) (sym (append-nil before))
world_after own cs before (s ∷ steps) =
    ap (λ w. after_steps w steps) (after_push own cs before s)
    ∙ (world_after own cs (before ++ s ∷ []) steps ∙ ap (world_of own cs) (append_assoc before (s ∷ []) steps))

-- ---- the calls of a journal

judged_calls : (c : Start) (own : Address) (calls : List Call) → map call_in (judged_journal c own calls) ≡ calls
judged_calls c own [] = refl
judged_calls c own (s ∷ calls) = ap (λ l. s ∷ l) (judged_calls c own calls)

pub journal_calls : (c : Start) (own : Address) (calls : List Call) → map call_in (journal_of c own calls) ≡ calls
journal_calls c own calls = map-reverse call_in (judged_journal c own (reverse calls))
    ∙ (ap reverse (judged_calls c own (reverse calls)) ∙ reverse-reverse calls)

abbrev pub pair_of : Call → ℕ × Event
pair_of k = (k.line, k.event)

pub steps_of_calls : (w : ℕ) (journal : List Entry)
    → steps_by w journal ≡ map pair_of (filter (λ (k : Call). k.source == w) (map call_in journal))
steps_of_calls w journal =
    sym (ap (map pair_of) (filter-map (λ (k : Call). k.source == w) call_in journal)
    ∙ map-map pair_of call_in (filter (λ (x : Entry). x.source == w) journal))

-- ---- a meter's own lines

either_way : {X : Type 0} (b : Bool) (x : X) → cond b x x ≡ x
either_way true x = refl
either_way false x = refl

abbrev calls_by : ℕ → List Step → List (ℕ × Event)
calls_by w steps = map pair_of (filter (λ (k : Call). k.source == w) (map call_of steps))

own_step : (w source line : ℕ) (address : Address) (event : Event) (mine : Bool) (rest : List Step) (lines : List (ℕ × Event))
    → calls_by w rest ≡ cond (source == w) lines []
    → calls_by w (cond mine (record { source = source; line = line; address = address; event = event } ∷ rest) rest)
    ≡ cond (source == w) (cons_option (cond mine (Some (line, event)) None) lines) []
own_step w source line address event true rest lines h =
    picked_if pair_of (source == w) (record { source = source; line = line; event = event })
    (filter (λ (k : Call). k.source == w) (map call_of rest)) lines h
own_step w source line address event false rest lines h = h

own_lines : (a : Address) (w source : ℕ) (ls : List (ℕ × Told))
    → calls_by w (filter (is_for a) (steps_among source ls)) ≡ cond (source == w) (filter_map (λ l. event_at a l.0 l.1) ls) []
unfolding steps_among
own_lines a w source [] = sym (either_way (source == w) [])
own_lines a w source ((line, told.Event address event) ∷ ls) =
    own_step w source line address event (address.0 == a.0) (filter (is_for a) (steps_among source ls))
    (filter_map (λ l. event_at a l.0 l.1) ls) (own_lines a w source ls)
    ∙ ap (λ b. cond (source == w) (cons_option (cond b (Some (line, event)) None) (filter_map (λ l. event_at a l.0 l.1) ls)) [])
    (eqb_swap address.0 a.0)
own_lines a w source ((line, _) ∷ ls) = own_lines a w source ls

-- ---- the strangers' lines

abbrev note_of : Heard → ℕ × Address
note_of h = (h.line, h.address)

strange_step : (w source line : ℕ) (address : Address) (event : Event) (mine : Bool) (rest : List Step) (lines : List (ℕ × Address))
    → notes_by w (map heard_of rest) ≡ cond (source == w) lines []
    → notes_by w (map heard_of (cond (not mine) (record { source = source; line = line; address = address; event = event } ∷ rest) rest))
    ≡ cond (source == w) (cons_option (cond mine None (Some (line, address))) lines) []
strange_step w source line address event true rest lines h = h
strange_step w source line address event false rest lines h =
    picked_if note_of (source == w) (record { source = source; line = line; address = address })
    (filter (λ (h : Heard). h.source == w) (map heard_of rest)) lines h

strange_lines : (cs : List Start) (w source : ℕ) (ls : List (ℕ × Told))
    → notes_by w (strangers_of cs (steps_among source ls)) ≡ cond (source == w) (filter_map (λ l. stranger_at cs l.0 l.1) ls) []
unfolding steps_among
strange_lines cs w source [] = sym (either_way (source == w) [])
strange_lines cs w source ((line, told.Event address event) ∷ ls) =
    strange_step w source line address event (is_commissioned cs address)
    (filter (λ s. not (is_commissioned cs s.address)) (steps_among source ls)) (filter_map (λ l. stranger_at cs l.0 l.1) ls)
    (strange_lines cs w source ls)
strange_lines cs w source ((line, _) ∷ ls) = strange_lines cs w source ls

-- ---- the session

only_one : {X : Type 0} (f : List Told → List X) (w : ℕ) (heard : List Told) → f [] ≡ []
    → cond (1 == w) (f heard) [] ≡ f (heard_by w (heard ∷ []))
only_one f w heard none = at (1 == w)
  where
    at : (b : Bool) → cond b (f heard) [] ≡ f (cond b heard [])
    at true = refl
    at false = sym none

slot_alone : (own : Address) (c : Start) (heard : List Told) → IsMetersSlot own (heard ∷ []) c (slot_of own (steps_of 1 heard) c)
slot_alone own c heard = record {
  own_is = refl;
  commission_is = refl;
  legal = journal_of_legal c own (calls_of c.address (steps_of 1 heard));
  lines = λ w.
      steps_of_calls w (journal_of c own (calls_of c.address (steps_of 1 heard)))
      ∙ (ap (λ ks. map pair_of (filter (λ (k : Call). k.source == w) ks)) (journal_calls c own (calls_of c.address (steps_of 1 heard)))
      ∙ (own_lines c.address w 1 (enumerate_from 1 heard) ∙ only_one (lines_for c.address) w heard refl));
}

slots_alone : (own : Address) (cs : List Start) (heard : List Told)
    → EachWith (IsMetersSlot own (heard ∷ [])) cs (map (slot_of own (steps_of 1 heard)) cs)
slots_alone own [] heard = tt
slots_alone own (c ∷ cs) heard = (slot_alone own c heard, slots_alone own cs heard)

pub session_alone : (own : Address) (cs : List Start) (heard : List Told)
    → IsSession own cs (heard ∷ []) (world_of own cs (steps_of 1 heard))
unfolding world_of
session_alone own cs heard = record {
  meters = slots_alone own cs heard;
  strangers = λ w. strange_lines cs w 1 (enumerate_from 1 heard) ∙ only_one (lines_of_strangers cs) w heard refl;
}

addresses_alone : (own : Address) (cs : List Start) → addresses_in (world_of own cs []) ≡ map (λ c. c.address) cs
unfolding world_of
addresses_alone own cs = map-map address_of_slot (slot_of own []) cs

-- what one receiver heard alone for the meters of some commissions
pub record IsHeardAlone (own : Address) (cs : List Start) (h : Hearing) (world' : WorldView) (heard : List Told) : Type 0 where
  pub has_heard : HasHeard (map (λ c. c.address) cs) h heard
  pub world_is : world' ≡ world_of own cs (steps_of 1 heard)
  pub session : IsSession own cs (heard ∷ []) world'

pub heard_alone : (own : Address) (cs : List Start) (h : Hearing) (world world' : WorldView) → world ≡ world_of own cs []
    → (x : HasHeardAlone 1 h world world') → IsHeardAlone own cs h world' x.heard
heard_alone own cs h world world' fresh x =
    let after : world' ≡ world_of own cs (steps_of 1 x.heard) =
    x.world_is ∙ (ap (λ w. after_steps w (steps_of 1 x.heard)) fresh ∙ world_after own cs [] (steps_of 1 x.heard)) in record {
      has_heard = subst (λ d. HasHeard d h x.heard) (ap addresses_in fresh ∙ addresses_alone own cs) x.has_heard;
      world_is = after;
      session = subst (IsSession own cs (x.heard ∷ [])) (sym after) (session_alone own cs x.heard);
    }
