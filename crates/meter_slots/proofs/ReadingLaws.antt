-- Proof that the readings of a journal are those of its stored messages.
use Rattle.std.proofs.Common.{◌≡◌, ℕ, Bool, List, [], ◌∷◌, ◌++◌, reverse, map, Option, Some, None, Result, Ok, Err, refl, ap, sym, ◌∙◌}
use Rattle.std.proofs.Common.{subst, arith}
use Rattle.std.specs.Prelude.{filter_map}
use Rattle.std.specs.List.{cons_option}
use Rattle.std.specs.Result.{result_ok}
use Rattle.std.proofs.lemmas.List.{map-append, reverse-reverse}
use Rattle.meter_address.specs.declared.address.Address.{Address}
use Rattle.meter_address.specs.declared.commission.Mode.{Mode}
use Rattle.meter_address.specs.declared.commission.Mode.TheVariants.{Five, Seven}
use Rattle.meter_address.specs.Commission.{Commissioned}
use Rattle.afl_fragments.specs.Held.{Message}
use Rattle.message_check.specs.Steps.{◌>>=◌}
use Rattle.ell_layer.specs.declared.access.Access.{Access}
use Rattle.command_queue.specs.Orders.{Orders}
use Rattle.message_check.specs.Opening.{Found, Passed, access_number_passed, counter_passed, compared5, compared7}
use Rattle.message_check.specs.declared.refusal.Reason.{Reason}
use Rattle.meter_slots.specs.declared.entry.Entry.{Entry}
use Rattle.meter_slots.specs.declared.entry.Event.{Event}
use Rattle.meter_slots.specs.declared.entry.Event.TheVariants.{Hear}
use Rattle.frame_formats.specs.declared.format.Format.{Format}
use Rattle.meter_slots.specs.declared.entry.Outcome.{Outcome}
use Rattle.meter_slots.specs.declared.reading.Reading.{Reading}
use Rattle.meter_slots.specs.Hearing.{received, brought}
use Rattle.meter_slots.specs.Journal.{Start, commission_of, Standing, standing, told, other_key, rekeyed, opened_in, compared, genuine_in, genuine}
use Rattle.meter_slots.specs.Journal.{stored_or_refused, judged, orders, last_counter, verdict, heard, answer, outcome, IsJudged, Legal}
use Rattle.meter_slots.specs.Journal.{stored_in, stored, reading_at, reading_of, readings_back, readings, stored_counter}
use Rattle.meter_slots.specs.Laws.{stored_counters, moment_read, stored_moment, stored_moments, reading_added}
use Rattle.meter_slots.proofs.Journals.{back, found_where, readings-append}
use Rattle.meter_slots.proofs.JournalLaws.{filtered_back}

-- what a fact says of each answer it says of all entries
each_stored : {X : Type 0} (f : Reading → X) (g : Event → Outcome → Option X) (c : Start) (own : Address)
    → ((s : Standing) (event : Event) → map f (reading_of event (stored (commission_of c) s event))
    ≡ cons_option (g event (answer (commission_of c) own s event)) [])
    → (earlier : List Entry) → IsJudged c own earlier → map f (readings_back c earlier)
    ≡ filter_map (λ x. g x.event x.outcome) (reverse earlier)
unfolding outcome
each_stored f g c own one [] j = refl
each_stored f g c own one (x ∷ earlier) j =
    let s = standing c earlier in
    map-append f (readings_back c earlier) (reading_of x.event (stored (commission_of c) s x.event))
    ∙ ap (λ xs. xs ++ map f (reading_of x.event (stored (commission_of c) s x.event))) (each_stored f g c own one earlier j.1)
    ∙ ap (λ xs. filter_map (λ (y : Entry). g y.event y.outcome) (reverse earlier) ++ xs)
    (one s x.event ∙ ap (λ o. cons_option (g x.event o) []) (sym j.0))
    ∙ sym (filtered_back (λ (y : Entry). g y.event y.outcome) x earlier)

-- ---- the counter

heard_counter : (own : Address) (c : Commissioned) (k : Orders) (access : Access) (response : Bool) (at : ℕ)
    (v : Result (Option Found) Reason)
    → map (λ (r : Reading). r.counter) (reading_at at (stored_in v)) ≡ cons_option (stored_counter (heard own c k access response v)) []
heard_counter own c k access response at v = grind arith

answer_counter : (c : Commissioned) (own : Address) (s : Standing) (event : Event)
    → map (λ (r : Reading). r.counter) (reading_of event (stored c s event)) ≡ cons_option (stored_counter (answer c own s event)) []
answer_counter c own s (Hear format at t) = heard_counter own c s.orders _ _ at (verdict c s t)
answer_counter c own s _ = grind arith

pub counters_read : (c : Start) (own : Address) (journal : List Entry) → Legal c own journal
    → map (λ (r : Reading). r.counter) (readings c journal) ≡ stored_counters journal
unfolding readings
counters_read c own journal j =
    each_stored (λ (r : Reading). r.counter) (λ event o. stored_counter o) c own (answer_counter (commission_of c) own) (reverse journal) j
    ∙ ap stored_counters (reverse-reverse journal)

-- ---- the moment with it

heard_moment : (own : Address) (c : Commissioned) (k : Orders) (access : Access) (response : Bool) (format : Format) (at : ℕ) (t : List ℕ)
    (v : Result (Option Found) Reason)
    → map moment_read (reading_at at (stored_in v)) ≡ cons_option (stored_moment (Hear format at t) (heard own c k access response v)) []
heard_moment own c k access response format at t v = grind arith

answer_moment : (c : Commissioned) (own : Address) (s : Standing) (event : Event)
    → map moment_read (reading_of event (stored c s event)) ≡ cons_option (stored_moment event (answer c own s event)) []
answer_moment c own s (Hear format at t) = heard_moment own c s.orders _ _ format at t (verdict c s t)
answer_moment c own s _ = refl

pub moments_read : (c : Start) (own : Address) (journal : List Entry) → Legal c own journal
    → map moment_read (readings c journal) ≡ stored_moments journal
unfolding readings
moments_read c own journal j =
    each_stored moment_read stored_moment c own (answer_moment (commission_of c) own) (reverse journal) j
    ∙ ap stored_moments (reverse-reverse journal)

-- ---- the payload of what was genuine

passed_found : (p : Passed) (x f : Found) → stored_or_refused (found_where p x) ≡ Ok (Some f) → Some x ≡ Some f
passed_found (Ok u) x f h = cc
passed_found (Err reason) x f h = cc

compared_found : (mode : Mode) (last : Option ℕ) (x f : Found) → stored_or_refused (compared mode last x) ≡ Ok (Some f) → Some x ≡ Some f
unfolding compared5 compared7
compared_found Five last x f h = passed_found (access_number_passed last x.counter) x f h
compared_found Seven last x f h = passed_found (counter_passed last x.counter) x f h

pub opened_found : (mode : Mode) (last : Option ℕ) (g : Result Found Reason) (f : Found)
    → stored_or_refused (g >>= compared mode last) ≡ Ok (Some f) → result_ok g ≡ Some f
opened_found mode last (Err reason) f h = cc
opened_found mode last (Ok x) f h = compared_found mode last x f h

-- what is stored is what was genuine
judged_found : (c : Commissioned) (last : Option ℕ) (b : Result (Option Message) Reason) (f : Found) → judged c last b ≡ Ok (Some f)
    → genuine_in c b ≡ Some f
judged_found c last (Ok (Some m)) f h = opened_found c.mode last (opened_in c.mode c m) f h
judged_found c last _ f h = cc

none_read : (event : Event) → reading_of event None ≡ []
none_read event = grind arith

heard_added : (own : Address) (c : Commissioned) (k : Orders) (access : Access) (response : Bool) (event : Event) (found : Option Found)
    (v : Result (Option Found) Reason)
    → ((f : Found) → v ≡ Ok (Some f) → found ≡ Some f)
    → reading_of event (stored_in v) ≡ reading_added (heard own c k access response v) event found
heard_added own c k access response event found (Ok (Some f)) h = ap (reading_of event) (sym (h f refl))
heard_added own c k access response event found _ h = none_read event

none_added : (event : Event) (found : Option Found) (o : Outcome) → reading_of event found ≡ [] → [] ≡ reading_added o event found
none_added event found o h = grind arith

answer_added : (c : Start) (own : Address) (earlier : List Entry) (event : Event)
    → reading_of event (stored (commission_of c) (standing c earlier) event)
    ≡ reading_added (answer (commission_of c) own (standing c earlier) event) event
    (genuine c earlier event)
answer_added c own earlier (Hear format at t) =
    heard_added own (commission_of c) (orders c earlier) _ _ (Hear format at t) (genuine c earlier (Hear format at t))
    (verdict (commission_of c) (standing c earlier) t)
    (judged_found (rekeyed (commission_of c) (other_key c earlier)) (last_counter c earlier) (brought (told c earlier) t (received c.mode t)))
answer_added c own earlier event = none_added event None (answer (commission_of c) own (standing c earlier) event) refl

-- the readings after one more entry
pub added_read : (c : Start) (own : Address) (journal : List Entry) (x : Entry) → Legal c own (journal ++ x ∷ [])
    → readings c (journal ++ x ∷ []) ≡ readings c journal ++ reading_added x.outcome x.event (genuine c (reverse journal) x.event)
unfolding outcome
added_read c own journal x j =
    let earlier = reverse journal in
    let h = subst (IsJudged c own) (back journal x) j in
    readings-append c journal x
    ∙ ap (λ rs. readings c journal ++ rs) (answer_added c own earlier x.event ∙ ap
    (λ o. reading_added o x.event (genuine c earlier x.event)) (sym h.0))
