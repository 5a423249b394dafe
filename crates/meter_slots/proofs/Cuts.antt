-- A slot that goes on where another one ended is the one slot of both journals.
use Rattle.std.proofs.Common.{◌≡◌, ◌↔◌, ℕ, List, [], ◌∷◌, ◌++◌, reverse, Option, Some, refl, ap, sym, ◌∙◌, subst, arith}
use Rattle.std.specs.Prelude.{option_to_list, option_map}
use Rattle.std.proofs.lemmas.List.{reverse-append, append_assoc, append-nil}
use Rattle.meter_address.specs.declared.address.Address.{Address}
use Rattle.meter_address.specs.declared.commission.Mode.{Mode}
use Rattle.meter_address.specs.declared.commission.Mode.TheVariants.{Five, Seven}
use Rattle.command_queue.specs.Orders.{Orders}
use Rattle.afl_fragments.specs.Held.{held}
use Rattle.afl_fragments.specs.Short.{told_of, cut_down}
use Rattle.afl_fragments.proofs.Shortening.{cut_holds, held_goes_on}
use Rattle.message_check.specs.Opening.{Found}
use Rattle.meter_slots.specs.declared.entry.Entry.{Entry}
use Rattle.meter_slots.specs.declared.entry.Event.{Event}
use Rattle.meter_slots.specs.declared.entry.Event.TheVariants.{Hear}
use Rattle.meter_slots.specs.declared.reading.Reading.{Reading}
use Rattle.meter_slots.specs.Hearing.{received, brought}
use Rattle.meter_slots.specs.Journal.{Start, commission_of, told, told_by, other_after, other_key, rekeyed}
use Rattle.meter_slots.specs.Journal.{genuine, counters, greater, last_among, last_counter}
use Rattle.meter_slots.specs.Journal.{access_at, standing_with, orders, standing}
use Rattle.meter_slots.specs.Journal.{outcome, IsJudged, Legal, stored, reading_of, readings_back, readings}
use Rattle.meter_slots.proofs.Alike.{brought_same, genuine_alike, told_alike, access_alike, stored_alike, answer_alike}
use Rattle.meter_slots.specs.Resuming.{last_of, last_known, resumed, IsSameStanding, resumed_behind, joined, AreLegal, readings_through}

-- what is known behind some entries, of which the latest stands first, with this last reading
abbrev pub behind : Start → List Entry → Option Reading → Start
behind c earlier reading = record {
  address = c.address;
  mode = c.mode;
  key = c.key;
  other = other_key c earlier;
  last = last_counter c earlier;
  told = cut_down (told c earlier);
  orders = orders c earlier;
  reading = reading;
}

-- ---- what both journals come to

last_floor : (mode : Mode) (xs ys : List ℕ) → last_among mode (xs ++ option_to_list (last_among mode ys)) ≡ last_among mode (xs ++ ys)
last_floor Seven [] ys = grind arith
last_floor Seven (x ∷ xs) ys = ap (greater x) (last_floor Seven xs ys)
last_floor Five [] [] = refl
last_floor Five [] (y ∷ ys) = refl
last_floor Five (x ∷ xs) ys = refl

module _ (c : Start) (earlier : List Entry) (reading : Option Reading) where
  abbrev next : Start
  next = behind c earlier reading

  other_cut : (later : List Entry) → other_key next later ≡ other_key c (later ++ earlier)
  other_cut [] = refl
  other_cut (x ∷ later) = ap (other_after c.mode x.event) (other_cut later)

  held_cut : (later : List Entry) → held (told next later) ≡ held (told c (later ++ earlier))
  unfolding told
  held_cut [] = cut_holds (told c earlier)
  held_cut (x ∷ later) =
      ap (λ ts. held (ts ++ told next later))
      (told_alike (commission_of c) (other_key c earlier) (last_counter c earlier) (orders c earlier).down (orders c earlier).queue.ids
      x.event x.outcome)
      ∙ held_goes_on (told_by (commission_of c) x.event x.outcome) (told next later) (told c (later ++ earlier)) (held_cut later)

  genuine_cut : (later : List Entry) (event : Event) → genuine next later event ≡ genuine c (later ++ earlier) event
  genuine_cut later (Hear format at t) =
      let both = later ++ earlier in
      let k = orders c earlier in
      let b = brought_same (told next later) (told c both) t (received c.mode t) (held_cut later) in
      let g = genuine_alike (rekeyed (commission_of c) (other_key c both)) (last_counter c earlier) k.down k.queue.ids
      (brought (told c both) t (received c.mode t)) in
      cc (other_cut later)
  genuine_cut later _ = refl

  abbrev counter_in : Option Found → List ℕ
  counter_in found = option_to_list (option_map (λ f. f.counter) found)

  counters_cut : (later : List Entry) → counters next later ++ counters c earlier ≡ counters c (later ++ earlier)
  counters_cut [] = refl
  counters_cut (x ∷ later) =
      append_assoc (counter_in (genuine next later x.event)) (counters next later) (counters c earlier)
      ∙ ap (λ (f : Option Found). counter_in f ++ (counters next later ++ counters c earlier)) (genuine_cut later x.event)
      ∙ ap (λ ns. counter_in (genuine c (later ++ earlier) x.event) ++ ns) (counters_cut later)

  last_cut : (later : List Entry) → last_counter next later ≡ last_counter c (later ++ earlier)
  unfolding last_counter
  last_cut later =
      last_floor c.mode (counters next later) (counters c earlier ++ option_to_list c.last)
      ∙ ap (last_among c.mode) (sym (append_assoc (counters next later) (counters c earlier) (option_to_list c.last)))
      ∙ ap (λ ns. last_among c.mode (ns ++ option_to_list c.last)) (counters_cut later)

  access_cut : (later : List Entry) (k : Orders) (event : Event)
      → access_at (commission_of next) (standing_with next later k) event ≡ access_at (commission_of c) (standing_with c (later ++ earlier) k) event
  access_cut later k event =
      access_alike (commission_of c) (other_key c earlier) (last_counter c earlier) (orders c earlier).down (orders c earlier).queue.ids
      (standing_with next later k) (standing_with c (later ++ earlier) k)
      (record { other = other_cut later; last = last_cut later; held = held_cut later; orders = refl }) event

  orders_cut : (later : List Entry) → orders next later ≡ orders c (later ++ earlier)
  orders_cut [] = refl
  orders_cut (x ∷ later) =
      let k = orders_cut later in
      let a = access_cut later (orders c (later ++ earlier)) x.event in
      cc

  -- what the later entries come to is what all entries come to
  pub standing_cut : (later : List Entry) → IsSameStanding (standing next later) (standing c (later ++ earlier))
  standing_cut later = record { other = other_cut later; last = last_cut later; held = held_cut later; orders = orders_cut later }

  outcome_cut : (own : Address) (later : List Entry) (event : Event) → outcome next own later event ≡ outcome c own (later ++ earlier) event
  unfolding outcome
  outcome_cut own later event =
      answer_alike (commission_of c) (other_key c earlier) (last_counter c earlier) (orders c earlier).down (orders c earlier).queue.ids
      (standing next later) (standing c (later ++ earlier)) (standing_cut later) own event

  stored_cut : (later : List Entry) (event : Event)
      → stored (commission_of next) (standing next later) event ≡ stored (commission_of c) (standing c (later ++ earlier)) event
  stored_cut later event =
      stored_alike (commission_of c) (other_key c earlier) (last_counter c earlier) (orders c earlier).down (orders c earlier).queue.ids
      (standing next later) (standing c (later ++ earlier)) (standing_cut later) event

  judged_parts : (own : Address) (later : List Entry) → IsJudged c own (later ++ earlier) → IsJudged c own earlier × IsJudged next own later
  judged_parts own [] j = (j, tt)
  judged_parts own (x ∷ later) j =
      let rest = judged_parts own later j.1 in
      (rest.0, (j.0 ∙ sym (outcome_cut own later x.event), rest.1))

  judged_joined : (own : Address) (later : List Entry) → IsJudged c own earlier → IsJudged next own later → IsJudged c own (later ++ earlier)
  judged_joined own [] before j = before
  judged_joined own (x ∷ later) before j = (j.0 ∙ outcome_cut own later x.event, judged_joined own later before j.1)

  readings_cut : (later : List Entry) → readings_back c (later ++ earlier) ≡ readings_back c earlier ++ readings_back next later
  readings_cut [] = sym (append-nil (readings_back c earlier))
  readings_cut (x ∷ later) =
      ap (λ rs. rs ++ reading_of x.event (stored (commission_of c) (standing c (later ++ earlier)) x.event)) (readings_cut later)
      ∙ ap (λ (f : Option Found). (readings_back c earlier ++ readings_back next later) ++ reading_of x.event f)
      (sym (stored_cut later x.event))
      ∙ append_assoc (readings_back c earlier) (readings_back next later)
      (reading_of x.event (stored (commission_of next) (standing next later) x.event))

  behind_cut : (later : List Entry) (r : Option Reading) → behind next later r ≡ behind c (later ++ earlier) r
  behind_cut later r = let hs = ap told_of (held_cut later) in cc (other_cut later, last_cut later, orders_cut later)

-- ---- journals, the oldest entry first

module _ (c : Start) (before : List Entry) where
  pub outcome_goes_on : (own : Address) (after : List Entry) (event : Event)
      → outcome (resumed c before) own (reverse after) event ≡ outcome c own (reverse (before ++ after)) event
  outcome_goes_on own after event =
      outcome_cut c (reverse before) (last_known c before) own (reverse after) event
      ∙ ap (λ (es : List Entry). outcome c own es event) (sym (reverse-append before after))

  pub legal_parts : (own : Address) (after : List Entry) → Legal c own (before ++ after) → Legal c own before × Legal (resumed c before) own after
  legal_parts own after j =
      judged_parts c (reverse before) (last_known c before) own (reverse after) (subst (IsJudged c own) (reverse-append before after) j)

  pub legal_joined : (own : Address) (after : List Entry) → Legal c own before → Legal (resumed c before) own after → Legal c own (before ++ after)
  legal_joined own after j k =
      subst (IsJudged c own) (sym (reverse-append before after))
      (judged_joined c (reverse before) (last_known c before) own (reverse after) j k)

  pub readings_go_on : (after : List Entry) → readings c (before ++ after) ≡ readings c before ++ readings (resumed c before) after
  unfolding readings
  readings_go_on after =
      ap (readings_back c) (reverse-append before after) ∙ readings_cut c (reverse before) (last_known c before) (reverse after)

  last_of-append : (o : Option Reading) (xs ys : List Reading) → last_of o (xs ++ ys) ≡ last_of (last_of o xs) ys
  last_of-append o [] ys = refl
  last_of-append o (x ∷ xs) ys = last_of-append (Some x) xs ys

  pub resumed_goes_on : (after : List Entry) → resumed (resumed c before) after ≡ resumed c (before ++ after)
  resumed_goes_on after =
      let next = resumed c before in
      behind_cut c (reverse before) (last_known c before) (reverse after) (last_known next after)
      ∙ ap (λ (es : List Entry). behind c es (last_known next after)) (sym (reverse-append before after))
      ∙ ap (behind c (reverse (before ++ after)))
      (sym (last_of-append c.reading (readings c before) (readings next after)) ∙ ap (last_of c.reading) (sym (readings_go_on after)))

-- ---- many journals

-- nothing is lost where nothing was heard, but what isn't held
pub resumed_through : (c : Start) (first : List Entry) (journals : List (List Entry))
    → resumed_behind (resumed c first) journals ≡ resumed c (first ++ joined journals)
resumed_through c first [] = ap (resumed c) (sym (append-nil first))
resumed_through c first (journal ∷ later) =
    ap (λ (s : Start). resumed_behind s later) (resumed_goes_on c first journal)
    ∙ resumed_through c (first ++ journal) later
    ∙ ap (resumed c) (append_assoc first journal (joined later))

pub legal_through : (c : Start) (own : Address) (first : List Entry) (journals : List (List Entry))
    → (Legal c own first × AreLegal (resumed c first) own journals) ↔ Legal c own (first ++ joined journals)
legal_through c own first [] =
    (λ p. subst (Legal c own) (sym (append-nil first)) p.0, λ j. (subst (Legal c own) (append-nil first) j, tt))
legal_through c own first (journal ∷ later) =
    let rest = legal_through c own (first ++ journal) later in
    let same = append_assoc first journal (joined later) in
    let next = resumed_goes_on c first journal in (
      λ p. subst (Legal c own) same
          (rest.0 (legal_joined c first own journal p.0 p.1.0, subst (λ (s : Start). AreLegal s own later) next p.1.1)),
      λ j. let both = rest.1 (subst (Legal c own) (sym same) j) in
          let parts = legal_parts c first own journal both.0 in
          (parts.0, (parts.1, subst (λ (s : Start). AreLegal s own later) (sym next) both.1)),
    )

pub readings_of_all : (c : Start) (first : List Entry) (journals : List (List Entry))
    → readings c (first ++ joined journals) ≡ readings c first ++ readings_through (resumed c first) journals
readings_of_all c first [] = ap (readings c) (append-nil first) ∙ sym (append-nil (readings c first))
readings_of_all c first (journal ∷ later) =
    let next = resumed c first in
    ap (readings c) (sym (append_assoc first journal (joined later)))
    ∙ readings_of_all c (first ++ journal) later
    ∙ ap (λ (s : Start). readings c (first ++ journal) ++ readings_through s later) (sym (resumed_goes_on c first journal))
    ∙ ap (λ rs. rs ++ readings_through (resumed next journal) later) (readings_go_on c first journal)
    ∙ append_assoc (readings c first) (readings next journal) (readings_through (resumed next journal) later)
