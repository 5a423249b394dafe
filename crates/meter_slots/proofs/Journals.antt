-- What one more entry changes.
use Rattle.std.proofs.Common.{◌≡◌, ℕ, ◌≤◌, max, Bool, true, false, cond, nat_lt, ◌==◌, List, [], ◌∷◌, ◌++◌, reverse, Option, Some, None}
use Rattle.std.proofs.Common.{Result, Ok, Err, refl, ap, sym, ◌∙◌, arith, subst}
use Rattle.std.specs.Prelude.{option_to_list, option_map}
use Rattle.std.specs.Option.{ForSome}
use Rattle.std.specs.Result.{result_ok}
use Rattle.std.proofs.lemmas.Bool.Decides.{nat_tests}
use Rattle.std.proofs.lemmas.List.{reverse-append}
use Rattle.std.proofs.lemmas.List.Elements.{All-nil, All-push}
use Rattle.meter_address.specs.declared.address.Address.{Address}
use Rattle.meter_address.specs.declared.commission.Mode.{Mode}
use Rattle.meter_address.specs.declared.commission.Mode.TheVariants.{Five, Seven}
use Rattle.meter_address.specs.Commission.{Commissioned, most_last}
use Rattle.ell_layer.specs.declared.access.Access.{Access}
use Rattle.command_queue.specs.Orders.{Orders, confirmed}
use Rattle.afl_fragments.specs.Held.{Told, Message, StandsFor}
use Rattle.message_check.specs.Steps.{◌>>=◌}
use Rattle.message_check.specs.Opening.{Found, Passed, compared5, compared7}
use Rattle.message_check.specs.declared.refusal.Reason.{Reason}
use Rattle.message_check.specs.declared.refusal.Reason.TheVariants.{Stale, SameAccess}
use Rattle.meter_slots.specs.declared.entry.Entry.{Entry}
use Rattle.meter_slots.specs.declared.entry.Event.{Event}
use Rattle.meter_slots.specs.declared.entry.Event.TheVariants.{Hear}
use Rattle.meter_slots.specs.declared.entry.Outcome.{Outcome}
use Rattle.meter_slots.specs.declared.entry.Outcome.TheVariants.{Stored}
use Rattle.meter_slots.specs.declared.reading.Reading.{Reading}
use Rattle.meter_slots.specs.Hearing.{received, brought}
use Rattle.meter_slots.specs.Journal.{Start, commission_of, told, told_by, other_after, other_key, rekeyed, opened_in, compared, genuine_in, genuine, counters}
use Rattle.meter_slots.specs.Journal.{greater, greatest, last_among, last_counter}
use Rattle.meter_slots.specs.Journal.{Standing, standing, stored_or_refused, judged, verdict, access_at, orders_after, orders}
use Rattle.meter_slots.specs.Journal.{heard, answer, outcome}
use Rattle.meter_slots.specs.Journal.{stored, reading_of, readings_back, readings}
use Rattle.meter_slots.proofs.Alike.{answer_alike}
use Rattle.meter_slots.specs.Laws.{AreReady, PutsPayload}
use Rattle.meter_slots.specs.Keeping.{Kept, standing_for, Keeps, last_after, Moves, StoresInRange}

-- ---- the last number

-- the last number after a verdict
abbrev last_by : Option ℕ → Result (Option Found) Reason → Option ℕ
last_by last (Ok (Some f)) = Some f.counter
last_by last _ = last

-- what is found, where a check is passed
abbrev pub found_where : Passed → Found → Result Found Reason
found_where passed f = passed >>= (λ _. Ok f)

above_cases : (f : Found) (k : ℕ) (b : Bool) → nat_lt k f.counter ≡ b
    → Some (max f.counter k) ≡ last_by (Some k) (stored_or_refused (found_where (cond b (Ok tt) (Err (Stale f.counter k))) f))
above_cases f k true h = grind (arith, nat_tests)
above_cases f k false h = grind (arith, nat_tests)

other_cases : (f : Found) (k : ℕ) (b : Bool) → (k == f.counter) ≡ b
    → Some f.counter ≡ last_by (Some k) (stored_or_refused (found_where (cond b (Err (SameAccess f.counter)) (Ok tt)) f))
other_cases f k true h = grind (arith, nat_tests)
other_cases f k false h = refl

compared_last : (mode : Mode) (f : Found) (ns : List ℕ)
    → last_among mode (f.counter ∷ ns) ≡ last_by (last_among mode ns) (stored_or_refused (compared mode (last_among mode ns) f))
unfolding compared5 compared7
compared_last Five f [] = refl
compared_last Five f (k ∷ ns) = other_cases f k (k == f.counter) refl
compared_last Seven f ns = above (greatest ns)
  where
    above : (last : Option ℕ) → greater f.counter last ≡ last_by last (stored_or_refused (compared7 last f))
    above None = refl
    above (Some k) = above_cases f k (nat_lt k f.counter) refl

abbrev counter_in : Option Found → List ℕ
counter_in found = option_to_list (option_map (λ f. f.counter) found)

opened_last : (mode : Mode) (g : Result Found Reason) (ns floor : List ℕ) → last_among mode ((counter_in (result_ok g) ++ ns) ++ floor)
    ≡ last_by (last_among mode (ns ++ floor)) (stored_or_refused (g >>= compared mode (last_among mode (ns ++ floor))))
opened_last mode (Err reason) ns floor = refl
opened_last mode (Ok f) ns floor = compared_last mode f (ns ++ floor)

judged_last : (c : Commissioned) (b : Result (Option Message) Reason) (ns floor : List ℕ)
    → last_among c.mode ((counter_in (genuine_in c b) ++ ns) ++ floor)
    ≡ last_by (last_among c.mode (ns ++ floor)) (judged c (last_among c.mode (ns ++ floor)) b)
judged_last c (Ok (Some m)) ns floor = opened_last c.mode (opened_in c.mode c m) ns floor
judged_last c _ ns floor = refl

heard_last : (own : Address) (c : Commissioned) (k : Orders) (access : Access) (response : Bool) (last : Option ℕ)
    (v : Result (Option Found) Reason)
    → last_by last v ≡ last_after last (heard own c k access response v)
heard_last own c k access response last v = grind arith

answer_last : (c : Start) (own : Address) (earlier : List Entry) (event : Event)
    → last_among c.mode ((counter_in (genuine c earlier event) ++ counters c earlier) ++ option_to_list c.last)
    ≡ last_after (last_counter c earlier) (answer (commission_of c) own (standing c earlier) event)
unfolding last_counter
answer_last c own earlier (Hear format at t) =
    judged_last (rekeyed (commission_of c) (other_key c earlier)) (brought (told c earlier) t (received c.mode t)) (counters c earlier)
    (option_to_list c.last)
    ∙ heard_last own (commission_of c) (orders c earlier) _ _ (last_counter c earlier) (verdict (commission_of c) (standing c earlier) t)
answer_last c own earlier _ = grind arith

-- the last number after one more entry
pub last_counter-cons : (c : Start) (own : Address) (earlier : List Entry) (x : Entry) → x.outcome ≡ outcome c own earlier x.event
    → last_counter c (x ∷ earlier) ≡ last_after (last_counter c earlier) x.outcome
unfolding last_counter outcome
last_counter-cons c own earlier x h = answer_last c own earlier x.event ∙ ap (last_after (last_counter c earlier)) (sym h)

pub last_after_fits : (mode : Mode) (last : Option ℕ) (o : Outcome) → ForSome last (λ n. n ≤ most_last mode) → StoresInRange mode o
    → ForSome (last_after last o) (λ n. n ≤ most_last mode)
last_after_fits mode last (Stored counter confirmed sent) h f = λ n e. let same : counter ≡ n = cc e in rw (sym same) f
last_after_fits mode last _ h f = h

-- ---- a journal and one more entry

-- a journal read from its latest entry back
pub back : (journal : List Entry) (x : Entry) → reverse (journal ++ x ∷ []) ≡ x ∷ reverse journal
back journal x = reverse-append journal (x ∷ [])

told-cons : (c : Start) (earlier : List Entry) (x : Entry)
    → told c (x ∷ earlier) ≡ told_by (commission_of c) x.event x.outcome ++ told c earlier
unfolding told
told-cons c earlier x = refl

pub readings-append : (c : Start) (journal : List Entry) (x : Entry)
    → readings c (journal ++ x ∷ []) ≡ readings c journal ++ reading_of x.event (stored (commission_of c) (standing c (reverse journal)) x.event)
unfolding readings
readings-append c journal x = ap (readings_back c) (back journal x)

floor_last : (mode : Mode) (o : Option ℕ) → o ≡ last_among mode (option_to_list o)
floor_last mode o = grind arith

-- ---- what is kept

abbrev pub PutsIn : Entry → Type 0
PutsIn x = PutsPayload x.event

pub empty_kept : (c : Start) (own : Address) (k : Kept) → AreReady c.orders → k.commission ≡ commission_of c → k.last ≡ c.last
    → ForSome c.last (λ n. n ≤ most_last c.mode)
    → StandsFor k.parts c.told → k.orders ≡ c.orders → Keeps c own [] k []
unfolding last_counter readings told
empty_kept c own k ready same last fits parts commands = record {
  legal = tt;
  payloads = All-nil PutsIn;
  ready = ready;
  commission_is = same;
  last_is = last ∙ floor_last c.mode c.last;
  last_fits = subst (λ (o : Option ℕ). ForSome o (λ n. n ≤ most_last c.mode)) (sym last) fits;
  parts_are = parts;
  orders_are = commands;
  readings_are = refl;
}

-- what is kept stands for what the entries come to
kept_standing : (c : Start) (own : Address) (journal : List Entry) (k : Kept) (kept : List Reading)
    → Keeps c own journal k kept → standing_for k (told c (reverse journal)) ≡ standing c (reverse journal)
kept_standing c own journal k kept h =
    let other = ap (λ (m : Commissioned). m.other) h.commission_is in
    cc (h.last_is, h.orders_are)

-- what the kept state answers is what the journal answers
pub answer_kept : (c : Start) (own : Address) (journal : List Entry) (k : Kept) (kept : List Reading) (event : Event)
    (given : Outcome)
    → Keeps c own journal k kept
    → ((t : List Told) → StandsFor k.parts t → given ≡ answer k.commission own (standing_for k t) event)
    → given ≡ outcome c own (reverse journal) event
unfolding outcome
answer_kept c own journal k kept event given h answered =
    let earlier = reverse journal in
    answered (told c earlier) h.parts_are
    ∙ ap (λ (m : Commissioned). answer m own (standing_for k (told c earlier)) event) h.commission_is
    ∙ ap (λ (s : Standing). answer (rekeyed (commission_of c) (other_key c earlier)) own s event) (kept_standing c own journal k kept h)
    ∙ answer_alike (commission_of c) (other_key c earlier) c.last c.orders.down c.orders.queue.ids (standing c earlier) (standing c earlier)
    (record { other = refl; last = refl; held = refl; orders = refl }) own event

-- what is kept after one more entry
pub kept_after : (c : Start) (own : Address) (journal : List Entry) (k : Kept) (kept : List Reading) (x : Entry) (k' : Kept)
    (new : List Reading)
    → Keeps c own journal k kept
    → PutsPayload x.event
    → x.outcome ≡ outcome c own (reverse journal) x.event
    → StoresInRange k.commission.mode x.outcome
    → ((t : List Told) → StandsFor k.parts t → new ≡ reading_of x.event (stored k.commission (standing_for k t) x.event))
    → ((t : List Told) → StandsFor k.parts t → Moves k k' t x.event x.outcome)
    → Keeps c own (journal ++ x ∷ []) k' (kept ++ new)
kept_after c own journal k kept x k' new h puts judged fits reads moves =
    let earlier = reverse journal in
    let fragments = told c earlier in
    let m = moves fragments h.parts_are in
    let stands = kept_standing c own journal k kept h in
    let in_mode = subst (λ (n : Commissioned). StoresInRange n.mode x.outcome) h.commission_is fits in
    record {
      legal = rw (back journal x) (judged, h.legal);
      payloads = All-push PutsIn journal x h.payloads puts;
      ready = h.ready;
      commission_is = rw (back journal x) (m.commission
          ∙ ap (λ (n : Commissioned). rekeyed n (other_after n.mode x.event n.other)) h.commission_is);
      last_is = rw (back journal x, last_counter-cons c own earlier x judged) (m.last ∙ ap (λ l. last_after l x.outcome) h.last_is);
      last_fits = subst (λ (o : Option ℕ). ForSome o (λ n. n ≤ most_last c.mode)) (sym m.last)
          (last_after_fits c.mode k.last x.outcome h.last_fits in_mode);
      parts_are = rw (back journal x, told-cons c earlier x)
          (subst (λ (n : Commissioned). StandsFor k'.parts (told_by n x.event x.outcome ++ fragments)) h.commission_is m.parts);
      orders_are = rw (back journal x) (m.orders
          ∙ ap (λ (n : Commissioned). orders_after k.orders (access_at n (standing_for k fragments) x.event) x.event x.outcome)
          h.commission_is
          ∙ ap (λ (s : Standing). orders_after s.orders (access_at (commission_of c) s x.event) x.event x.outcome) stands);
      readings_are = rw (readings-append c journal x) (ap (λ rs. rs ++ new) h.readings_are
          ∙ ap (λ rs. readings c journal ++ rs) (reads fragments h.parts_are
          ∙ ap (λ (n : Commissioned). reading_of x.event (stored n (standing_for k fragments) x.event)) h.commission_is
          ∙ ap (λ (s : Standing). reading_of x.event (stored (commission_of c) s x.event)) stands));
    }
