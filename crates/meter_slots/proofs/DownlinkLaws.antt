-- Proof that the counters of downlinks rise.
use Rattle.std.proofs.Common.{◌≡◌, ℕ, ◌+◌, ◌<◌, ◌≤◌, length, length-append, Bool, List, [], ◌∷◌, ◌++◌, reverse, Option, Some, None, Result, Ok, refl}
use Rattle.std.proofs.Common.{ap, sym, ◌∙◌, arith, subst}
use Rattle.std.specs.Prelude.{option_map}
use Rattle.std.specs.List.{cons_option}
use Rattle.std.proofs.lemmas.Bool.{cond_both}
use Rattle.std.proofs.lemmas.List.Elements.{filter_map-append}
use Rattle.std.proofs.lemmas.List.{reverse-reverse, append-nil}
use Rattle.meter_address.specs.declared.address.Address.{Address}
use Rattle.meter_address.specs.Commission.{Commissioned}
use Rattle.ell_layer.specs.declared.access.Access.{Access}
use Rattle.command_queue.specs.declared.command.Command.{Command}
use Rattle.command_queue.specs.Pending.{put_answer, take_answer, is_pending}
use Rattle.command_queue.specs.Orders.{Orders, after_cancel, after_tick, confirmed, confirmed_orders, after_confirmed, sent, sent_orders}
use Rattle.command_queue.specs.Orders.{after_sent, after_stored, sent_at}
use Rattle.message_check.specs.Opening.{Found}
use Rattle.message_check.specs.declared.refusal.Reason.{Reason}
use Rattle.meter_slots.specs.declared.entry.Entry.{Entry}
use Rattle.meter_slots.specs.declared.entry.Event.{Event}
use Rattle.meter_slots.specs.declared.entry.Event.TheVariants.{Hear, Tick, Put, Cancel, Rekey}
use Rattle.meter_slots.specs.Journal.{Start, commission_of, standing, verdict, access_at, orders_heard, orders_after, orders, downlink_with, heard, queued}
use Rattle.meter_slots.specs.Journal.{cancelled, key_answer, answer, outcome, IsJudged, Legal}
use Rattle.meter_slots.specs.Laws.{sent_counter, sent_counters, last_or, IsAbove, IsRising}
use Rattle.meter_slots.specs.Resuming.{joined, resumed, reserved, Session, journals_of, AreReserved}
use Rattle.meter_slots.proofs.JournalLaws.{filtered_back, IsRising-push, last_or-push}

-- nothing is sent and the counter stays, or a downlink is sent under a new counter, which is the one after the old one
abbrev Counts : ℕ → ℕ → Option ℕ → Type 0
Counts old new None = new ≡ old
Counts old new (Some n) = (new ≡ old + 1) × (n ≡ new)

nothing_sent : (old new : ℕ) (o : Option ℕ) → o ≡ None → new ≡ old → Counts old new o
nothing_sent old new None h e = e
nothing_sent old new (Some n) h e = absurd cc

-- ---- a stored message

confirmed_down : (k : Orders) (id : Option ℕ) → (confirmed_orders k id).down ≡ k.down
confirmed_down k id = grind arith

command_counts : (own : Address) (c : Commissioned) (k : Orders) (command : Option Command)
    → Counts k.down (sent_orders k command).down
    (option_map (λ downlink. downlink.down) (option_map (downlink_with own c (sent_orders k command).down) command))
command_counts own c k None = refl
command_counts own c k (Some command) = (refl, refl)

stored_counts : (own : Address) (c : Commissioned) (k : Orders) (access : Access) (response : Bool)
    → Counts k.down (after_stored k access response).down
    (option_map (λ downlink. downlink.down) (option_map (downlink_with own c (after_stored k access response).down)
    (sent_at k access response)))
unfolding after_sent after_confirmed
stored_counts own c k access response =
    let j = confirmed_orders k (confirmed k response) in
    subst (λ (d : ℕ). Counts d (sent_orders j (sent j access)).down
    (option_map (λ downlink. downlink.down) (option_map (downlink_with own c (sent_orders j (sent j access)).down) (sent j access))))
    (confirmed_down k (confirmed k response)) (command_counts own c j (sent j access))

heard_counts : (own : Address) (c : Commissioned) (k : Orders) (access : Access) (response : Bool) (v : Result (Option Found) Reason)
    → Counts k.down (orders_heard k access response (heard own c k access response v)).down (sent_counter (heard own c k access response v))
heard_counts own c k access response (Ok (Some f)) = stored_counts own c k access response
heard_counts own c k access response _ = refl

-- ---- the other events

cancel_down : (k : Orders) (id : ℕ) → (after_cancel k id).down ≡ k.down
unfolding after_cancel
cancel_down k id = cond_both (is_pending id k.queue) _ k (λ (j : Orders). j.down ≡ k.down) (λ _. refl) (λ _. refl)

-- ---- an entry

answer_counts : (c : Start) (own : Address) (earlier : List Entry) (event : Event)
    → Counts (orders c earlier).down
    (orders_after (orders c earlier) (access_at (commission_of c) (standing c earlier) event) event
    (answer (commission_of c) own (standing c earlier) event)).down
    (sent_counter (answer (commission_of c) own (standing c earlier) event))
unfolding after_tick
answer_counts c own earlier (Hear format at t) =
    heard_counts own (commission_of c) (orders c earlier) _ _ (verdict (commission_of c) (standing c earlier) t)
answer_counts c own earlier Tick = refl
answer_counts c own earlier (Put payload) =
    let none : sent_counter (queued (put_answer (orders c earlier).queue)) ≡ None = grind arith in nothing_sent _ _ _ none refl
answer_counts c own earlier (Cancel id) =
    let none : sent_counter (cancelled id (take_answer id (orders c earlier).queue)) ≡ None = grind arith in
    nothing_sent _ _ _ none (cancel_down (orders c earlier) id)
answer_counts c own earlier (Rekey key) =
    let none : sent_counter (key_answer c.mode) ≡ None = grind arith in nothing_sent _ _ _ none refl

entry_counts : (c : Start) (own : Address) (x : Entry) (earlier : List Entry) → IsJudged c own (x ∷ earlier)
    → Counts (orders c earlier).down (orders c (x ∷ earlier)).down (sent_counter x.outcome)
unfolding outcome
entry_counts c own x earlier j = rw j.0 (answer_counts c own earlier x.event)

-- ---- a journal

-- the counters sent so far rise, the last of them is the last counter of a downlink, and each has raised it by one
record RisesTo (c : Start) (earlier : List Entry) (ns : List ℕ) : Type 0 where
  rises : IsRising (Some c.orders.down) ns
  ends : last_or (Some c.orders.down) ns ≡ Some (orders c earlier).down
  raised : (orders c earlier).down ≡ c.orders.down + length ns

rises_step : (c : Start) (x : Entry) (earlier : List Entry) (ns : List ℕ) (s : Option ℕ)
    → Counts (orders c earlier).down (orders c (x ∷ earlier)).down s → RisesTo c earlier ns
    → RisesTo c (x ∷ earlier) (ns ++ cons_option s [])
rises_step c x earlier ns None same r = record {
  rises = rw append-nil r.rises;
  ends = rw append-nil (r.ends ∙ ap Some (sym same));
  raised = rw append-nil (same ∙ r.raised);
}
rises_step c x earlier ns (Some n) above r = record {
  rises =
      let next = above.0 in let same = above.1 in
      let less : (orders c earlier).down < n = omega arith in
      IsRising-push (Some c.orders.down) ns n r.rises (subst (IsAbove n) (sym r.ends) less);
  ends = last_or-push (Some c.orders.down) ns n ∙ ap Some above.1;
  raised = let next = above.0 in let before = r.raised in let long = length-append ns (n ∷ []) in omega arith;
}

rises_back : (c : Start) (own : Address) (earlier : List Entry) → IsJudged c own earlier
    → RisesTo c earlier (sent_counters (reverse earlier))
rises_back c own [] j = record { rises = tt; ends = refl; raised = omega arith }
rises_back c own (x ∷ earlier) j =
    rw (filtered_back (λ (y : Entry). sent_counter y.outcome) x earlier)
    (rises_step c x earlier (sent_counters (reverse earlier)) (sent_counter x.outcome) (entry_counts c own x earlier j)
    (rises_back c own earlier j.1))

rises_behind : (c : Start) (own : Address) (journal : List Entry) → Legal c own journal
    → RisesTo c (reverse journal) (sent_counters journal)
rises_behind c own journal j =
    subst (λ (xs : List Entry). RisesTo c (reverse journal) (sent_counters xs)) (reverse-reverse journal) (rises_back c own (reverse journal) j)

pub downlink_counters_rise : (c : Start) (own : Address) (journal : List Entry) → Legal c own journal
    → IsRising (Some c.orders.down) (sent_counters journal)
downlink_counters_rise c own journal j = (rises_behind c own journal j).rises

-- each downlink takes the counter after the last one
pub downlinks_count : (c : Start) (own : Address) (journal : List Entry) → Legal c own journal
    → (resumed c journal).orders.down ≡ c.orders.down + length (sent_counters journal)
downlinks_count c own journal j = (rises_behind c own journal j).raised

-- ---- sessions, one after the other

IsRising-join : (floor : Option ℕ) (ns ms : List ℕ) → IsRising floor ns → IsRising (last_or floor ns) ms → IsRising floor (ns ++ ms)
IsRising-join floor [] ms r s = s
IsRising-join floor (n ∷ ns) ms r s = (r.0, IsRising-join (Some n) ns ms r.1 s)

IsRising-below : (low high : ℕ) (ns : List ℕ) → low ≤ high → IsRising (Some high) ns → IsRising (Some low) ns
IsRising-below low high [] below r = tt
IsRising-below low high (n ∷ ns) below r = let above : high < n = r.0 in (omega arith, r.1)

pub reserved_rise : (down : ℕ) (own : Address) (sessions : List Session) → AreReserved down own sessions
    → IsRising (Some down) (sent_counters (joined (journals_of sessions)))
reserved_rise down own [] h = tt
reserved_rise down own (s ∷ later) h =
    let r = rises_behind s.start own s.journal h.1.0 in
    let rest = reserved_rise (resumed s.start s.journal).orders.down own later h.1.1 in
    IsRising-below down s.start.orders.down _ h.0
    (subst (IsRising (Some s.start.orders.down))
    (sym (filter_map-append (λ (y : Entry). sent_counter y.outcome) s.journal (joined (journals_of later))))
    (IsRising-join (Some s.start.orders.down) (sent_counters s.journal) _ r.rises
    (subst (λ (f : Option ℕ). IsRising f (sent_counters (joined (journals_of later)))) (sym r.ends) rest)))

-- a session that was lost, and the next one, which begins with what was known before it and a reserve
pub lost_rise : (c : Start) (own : Address) (lost later : List Entry) (most : ℕ) → Legal c own lost
    → length (sent_counters lost) ≤ most → Legal (reserved most c) own later
    → IsRising (Some c.orders.down) (sent_counters (lost ++ later))
lost_rise c own lost later most j few k =
    let one : Session = record { start = c; journal = lost } in
    let two : Session = record { start = reserved most c; journal = later } in
    let raised = downlinks_count c own lost j in
    let below : (resumed c lost).orders.down ≤ c.orders.down + most = omega arith in
    subst (λ (xs : List Entry). IsRising (Some c.orders.down) (sent_counters (lost ++ xs))) (append-nil later)
    (reserved_rise c.orders.down own (one ∷ two ∷ []) (omega arith, (j, (below, (k, tt)))))
