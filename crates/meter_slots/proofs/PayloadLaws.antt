-- Proof that each downlink that a journal sent carries a payload.
use Rattle.std.proofs.Common.{◌≡◌, ℕ, ◌+◌, ◌-◌, ◌^◌, ◌<◌, ◌&&◌, Bool, true, not, cond, ltb, List, [], ◌∷◌, reverse, Option, Some}
use Rattle.std.proofs.Common.{None, Result, Ok, refl, sym, arith, subst}
use Rattle.std.specs.Prelude.{option_map, option_to_list}
use Rattle.std.specs.List.{All}
use Rattle.std.proofs.lemmas.Bool.{and_parts, cond_both, ltb-true}
use Rattle.std.proofs.lemmas.List.Sorted.{All-permutation, IsPermutation-reverse, IsPermutation-sym}
use Rattle.std.proofs.lemmas.List.Elements.{All-nil, All-cons, All-head, All-tail, All-append, All-filter, All-push}
use Rattle.meter_address.specs.declared.address.Address.{Address}
use Rattle.meter_address.specs.Commission.{Commissioned}
use Rattle.ell_layer.specs.declared.access.Access.{Access}
use Rattle.command_queue.specs.declared.command.Command.{Command}
use Rattle.command_queue.specs.Pending.{Pending, has_id, is_pending}
use Rattle.command_queue.specs.Pending.{without_command, one_try_more, with_try}
use Rattle.command_queue.proofs.Agreement.{put_both}
use Rattle.command_queue.specs.declared.window.Window.{Window}
use Rattle.command_queue.specs.declared.window.Window.TheVariants.{Idle}
use Rattle.command_queue.specs.Orders.{Orders, after_put, after_cancel, window_without, queue_less, expired, after_tick, confirmed}
use Rattle.command_queue.specs.Orders.{confirmed_orders, after_confirmed}
use Rattle.command_queue.specs.Orders.{is_open, oldest_where_idle, sent, sent_orders, after_sent, sent_at, after_stored}
use Rattle.message_check.specs.Opening.{Found}
use Rattle.message_check.specs.declared.refusal.Reason.{Reason}
use Rattle.meter_slots.specs.declared.entry.Entry.{Entry}
use Rattle.meter_slots.specs.declared.entry.Event.{Event}
use Rattle.meter_slots.specs.declared.entry.Event.TheVariants.{Hear, Tick, Put, Cancel, Rekey}
use Rattle.meter_slots.specs.declared.entry.Outcome.{Outcome}
use Rattle.meter_slots.specs.declared.entry.Outcome.TheVariants.{Stored}
use Rattle.meter_slots.specs.Journal.{Start, commission_of, Standing, standing, verdict, access_at, orders_heard, orders_after, orders, downlink_with, heard}
use Rattle.meter_slots.specs.Journal.{answer, outcome, IsJudged, Legal}
use Rattle.meter_slots.specs.Laws.{downlinks_of, downlinks_in, IsPayload, HasPayload, AreReady, PutsPayload, CarriesPayload}
use Rattle.meter_slots.proofs.Journals.{PutsIn}

-- ---- each command that waits has a payload

put_ready : (k : Orders) (payload : List ℕ) → IsPayload payload → AreReady k → AreReady (after_put k payload)
put_ready k payload p h =
    put_both (λ (q : Pending). All HasPayload q.commands) k.queue payload h
    (λ _. All-push HasPayload k.queue.commands (record { id = k.queue.ids + 1; tries = 0; payload = payload }) h p)

without_ready : (id : ℕ) (q : Pending) → All HasPayload q.commands → All HasPayload (without_command id q).commands
unfolding without_command
without_ready id q h = All-filter (λ (c : Command). not (has_id id c)) HasPayload q.commands h

cancel_ready : (k : Orders) (id : ℕ) → AreReady k → AreReady (after_cancel k id)
unfolding after_cancel
cancel_ready k id h =
    cond_both (is_pending id k.queue) (record k { queue = without_command id k.queue; window = window_without id k.window }) k AreReady
    (λ _. without_ready id k.queue h) (λ _. h)

less_ready : (o : Option ℕ) (q : Pending) → All HasPayload q.commands → All HasPayload (queue_less o q).commands
less_ready None q h = h
less_ready (Some id) q h = without_ready id q h

tick_ready : (k : Orders) → AreReady k → AreReady (after_tick k)
unfolding after_tick
tick_ready k h = less_ready (expired k) k.queue h

confirmed_ready : (k : Orders) (o : Option ℕ) → AreReady k → AreReady (confirmed_orders k o)
confirmed_ready k None h = h
confirmed_ready k (Some id) h = without_ready id k.queue h

try_ready : (cs : List Command) → All HasPayload cs → All HasPayload (one_try_more cs)
try_ready [] h = h
try_ready (c ∷ cs) h = All-cons HasPayload (record c { tries = c.tries + 1 }) cs (All-head HasPayload c cs h) (All-tail HasPayload c cs h)

sent_ready : (k : Orders) (o : Option Command) → AreReady k → AreReady (sent_orders k o)
unfolding with_try
sent_ready k None h = h
sent_ready k (Some c) h = try_ready k.queue.commands h

stored_ready : (k : Orders) (access : Access) (response : Bool) → AreReady k → AreReady (after_stored k access response)
unfolding after_sent after_confirmed
stored_ready k access response h =
    let j = confirmed_orders k (confirmed k response) in
    sent_ready j (sent j access) (confirmed_ready k (confirmed k response) h)

heard_ready : (k : Orders) (access : Access) (response : Bool) (o : Outcome) → AreReady k → AreReady (orders_heard k access response o)
heard_ready k access response (Stored counter confirmed sent) h = stored_ready k access response h
heard_ready k access response _ h = h

event_ready : (k : Orders) (access : Access) (event : Event) (o : Outcome) → PutsPayload event → AreReady k
    → AreReady (orders_after k access event o)
event_ready k access (Hear format at t) o p h = heard_ready k access _ o h
event_ready k access Tick o p h = tick_ready k h
event_ready k access (Put payload) o p h = put_ready k payload p h
event_ready k access (Cancel id) o p h = cancel_ready k id h
event_ready k access (Rekey key) o p h = h

pub orders_ready : (c : Start) (earlier : List Entry) → AreReady c.orders → All PutsIn earlier → AreReady (orders c earlier)
orders_ready c [] ready h = ready
orders_ready c (x ∷ earlier) ready h =
    event_ready (orders c earlier) (access_at (commission_of c) (standing c earlier) x.event) x.event x.outcome (All-head PutsIn x earlier h)
    (orders_ready c earlier ready (All-tail PutsIn x earlier h))

-- ---- each downlink that is sent carries a payload

if_some : (b : Bool) (o : Option Command) (c : Command) → cond b o None ≡ Some c → (b ≡ true) × (o ≡ Some c)
if_some b o c h = grind arith

oldest_payload : (w : Window) (cs : List Command) (c : Command) → All HasPayload cs → oldest_where_idle w cs ≡ Some c → HasPayload c
oldest_payload Idle (oldest ∷ others) c h e = let same : oldest ≡ c = cc in subst HasPayload same (All-head HasPayload oldest others h)
oldest_payload _ _ c h e = absurd cc

sent_payload : (k : Orders) (access : Access) (c : Command) → AreReady k → sent k access ≡ Some c → HasPayload c × (k.down < 2 ^ 32 - 1)
unfolding sent
sent_payload k access c h e =
    let p = if_some (is_open access && ltb k.down (2 ^ 32 - 1)) (oldest_where_idle k.window k.queue.commands) c e in
    let q = and_parts (is_open access) (ltb k.down (2 ^ 32 - 1)) p.0 in
    (oldest_payload k.window k.queue.commands c h p.1, ltb-true k.down (2 ^ 32 - 1) q.1)

module _ (own : Address) (c : Commissioned) where
  command_sent : (j : Orders) (access : Access) (o : Option Command) → sent j access ≡ o → AreReady j
      → All (CarriesPayload own c) (option_to_list (option_map (downlink_with own c (sent_orders j o).down) o))
  command_sent j access None e h = All-nil (CarriesPayload own c)
  command_sent j access (Some command) e h =
      let p = sent_payload j access command h e in
      All-cons (CarriesPayload own c) (downlink_with own c (j.down + 1) command) []
      (record { payload = command.payload; is_payload = p.0; counter = omega (arith, p.1); bytes = refl }) (All-nil (CarriesPayload own c))

  stored_sent : (k : Orders) (access : Access) (response : Bool) → AreReady k
      → All (CarriesPayload own c) (option_to_list
      (option_map (downlink_with own c (after_stored k access response).down) (sent_at k access response)))
  unfolding after_sent after_confirmed
  stored_sent k access response h =
      let j = confirmed_orders k (confirmed k response) in
      command_sent j access (sent j access) refl (confirmed_ready k (confirmed k response) h)

  heard_sent : (k : Orders) (access : Access) (response : Bool) (v : Result (Option Found) Reason) → AreReady k
      → All (CarriesPayload own c) (downlinks_of (heard own c k access response v))
  heard_sent k access response (Ok (Some f)) h = stored_sent k access response h
  heard_sent k access response _ h = All-nil (CarriesPayload own c)

  answer_sent : (s : Standing) (event : Event) → AreReady s.orders → All (CarriesPayload own c) (downlinks_of (answer c own s event))
  answer_sent s (Hear format at t) h = heard_sent s.orders _ _ (verdict c s t) h
  answer_sent s event h =
      let none : downlinks_of (answer c own s event) ≡ [] = grind arith in
      subst (All (CarriesPayload own c)) (sym none) (All-nil (CarriesPayload own c))

  abbrev SendsRightly : Entry → Type 0
  SendsRightly x = All (CarriesPayload own c) (downlinks_of x.outcome)

  all_sent : (entries : List Entry) → All SendsRightly entries → All (CarriesPayload own c) (downlinks_in entries)
  all_sent [] h = All-nil (CarriesPayload own c)
  all_sent (x ∷ entries) h =
      All-append (CarriesPayload own c) (downlinks_of x.outcome) (downlinks_in entries) (All-head SendsRightly x entries h)
      (all_sent entries (All-tail SendsRightly x entries h))

module _ (own : Address) (c : Start) (ready : AreReady c.orders) where
  abbrev Sends : Entry → Type 0
  Sends x = SendsRightly own (commission_of c) x

  entry_sent : (x : Entry) (earlier : List Entry) → IsJudged c own (x ∷ earlier) → All PutsIn earlier → Sends x
  unfolding outcome
  entry_sent x earlier j h =
      subst (λ (o : Outcome). All (CarriesPayload own (commission_of c)) (downlinks_of o)) (sym j.0)
      (answer_sent own (commission_of c) (standing c earlier) x.event (orders_ready c earlier ready h))

  journal_sent : (earlier : List Entry) → IsJudged c own earlier → All PutsIn earlier → All Sends earlier
  journal_sent [] j h = All-nil Sends
  journal_sent (x ∷ earlier) j h =
      let rest = All-tail PutsIn x earlier h in
      All-cons Sends x earlier (entry_sent x earlier j rest) (journal_sent earlier j.1 rest)

pub downlinks_carry : (own : Address) (c : Start) (journal : List Entry) → AreReady c.orders → Legal c own journal → All PutsIn journal
    → All (CarriesPayload own (commission_of c)) (downlinks_in journal)
downlinks_carry own c journal ready j h =
    let puts = All-permutation PutsIn journal (reverse journal) (IsPermutation-reverse journal) h in
    all_sent own (commission_of c) journal
    (All-permutation (Sends own c ready) (reverse journal) journal (IsPermutation-sym journal (reverse journal) (IsPermutation-reverse journal))
    (journal_sent own c ready (reverse journal) j puts))
