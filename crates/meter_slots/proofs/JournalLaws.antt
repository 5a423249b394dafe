-- Proofs of the laws of journals.
use Rattle.std.proofs.Common.{◌≡◌, ◌↔◌, ℕ, ◌<◌, Bool, true, false, cond, nat_lt, List, [], ◌∷◌, ◌++◌, reverse, map, Option, Some, None}
use Rattle.std.proofs.Common.{Result, Ok, Err, refl, ap, sym, ◌∙◌, arith, subst}
use Rattle.std.specs.Prelude.{option_to_list, option_map, filter_map}
use Rattle.std.specs.Result.{result_ok}
use Rattle.std.specs.List.{cons_option}
use Rattle.std.proofs.lemmas.List.Elements.{filter_map-append}
use Rattle.std.proofs.lemmas.Bool.Decides.{nat_tests}
use Rattle.std.proofs.lemmas.List.{reverse-append, reverse-reverse, append-nil, append_assoc}
use Rattle.lists.proofs.Places.{map-reverse}
use Rattle.meter_address.specs.declared.address.Address.{Address}
use Rattle.meter_address.specs.declared.commission.Mode.{Mode}
use Rattle.meter_address.specs.declared.commission.Mode.TheVariants.{Five, Seven}
use Rattle.meter_address.specs.Commission.{Commissioned}
use Rattle.ell_layer.specs.declared.access.Access.{Access}
use Rattle.command_queue.specs.declared.command.Command.{Command}
use Rattle.command_queue.specs.declared.command.NoSuch.{NoSuch}
use Rattle.command_queue.specs.declared.command.QueueFault.{QueueFault}
use Rattle.command_queue.specs.Pending.{put_answer, take_answer, with_command, with_command_by}
use Rattle.command_queue.specs.Orders.{Orders, after_cancel}
use Rattle.command_queue.proofs.Agreement.{cancel_refused}
use Rattle.afl_fragments.specs.Held.{Message}
use Rattle.message_check.specs.Steps.{◌>>=◌}
use Rattle.frame_formats.specs.Crc.{IsBytes}
use Rattle.frame_formats.specs.declared.format.Format.{Format}
use Rattle.message_check.proofs.OpeningLaws.{genuine_are_opened}
use Rattle.message_check.specs.Opening.{Found, Genuine7, opened7, compared7}
use Rattle.message_check.specs.declared.refusal.Reason.{Reason}
use Rattle.message_check.specs.declared.refusal.Reason.TheVariants.{Stale}
use Rattle.meter_slots.specs.declared.entry.Entry.{Entry}
use Rattle.meter_slots.specs.declared.entry.Event.{Event}
use Rattle.meter_slots.specs.declared.entry.Event.TheVariants.{Hear, Tick, Put, Cancel, Rekey}
use Rattle.meter_slots.specs.declared.entry.Outcome.{Outcome}
use Rattle.meter_slots.specs.Hearing.{received, brought}
use Rattle.meter_slots.specs.Journal.{Start, commission_of, Standing, standing, stored_counter, told, other_after, other_key, rekeyed, opened_in}
use Rattle.meter_slots.specs.Journal.{compared, genuine_in, genuine, counters, greater, greatest, last_among, last_counter}
use Rattle.meter_slots.specs.Journal.{stored_or_refused, judged, verdict, access_at, orders_heard, orders_after, orders, heard, queued}
use Rattle.meter_slots.specs.Journal.{cancelled, answer, outcome, IsJudged, Legal}
use Rattle.meter_slots.specs.Journal.{stored_in, stored, reading_at, reading_of, readings}
use Rattle.meter_slots.specs.Keeping.{stored_by, last_after}
use Rattle.meter_slots.specs.World.{Call, judged_journal, journal_of}
use Rattle.meter_slots.specs.Laws.{stored_counters, IsAbove, last_or, last_stored, IsRising, AreBelow, IsRefused, IsLeft, call_in}
use Rattle.meter_slots.proofs.Journals.{back, found_where, last_counter-cons, readings-append}

-- ---- an entry in its place

pub judged_rest : (c : Start) (own : Address) (later earlier : List Entry) → IsJudged c own (later ++ earlier) → IsJudged c own earlier
judged_rest c own [] earlier j = j
judged_rest c own (x ∷ later) earlier j = judged_rest c own later earlier j.1

pub front_back : {X : Type 0} (x : X) (xs : List X) → reverse (x ∷ xs) ≡ reverse xs ++ x ∷ []
front_back x xs = reverse-append (x ∷ []) xs

pub filtered_back : {X : Type 0} (g : Entry → Option X) (x : Entry) (earlier : List Entry)
    → filter_map g (reverse (x ∷ earlier)) ≡ filter_map g (reverse earlier) ++ cons_option (g x) []
filtered_back g x earlier = ap (filter_map g) (front_back x earlier) ∙ filter_map-append g (reverse earlier) (x ∷ [])

-- the entries of a journal from one of them back
from_entry : (before : List Entry) (x : Entry) (after : List Entry) → reverse (before ++ x ∷ after) ≡ reverse after ++ x ∷ reverse before
from_entry before x after =
    reverse-append before (x ∷ after) ∙ ap (λ xs. xs ++ reverse before) (front_back x after)
    ∙ append_assoc (reverse after) (x ∷ []) (reverse before)

pub judged_at : (c : Start) (own : Address) (before : List Entry) (x : Entry) (after : List Entry)
    → Legal c own (before ++ x ∷ after) → IsJudged c own (x ∷ reverse before)
judged_at c own before x after j =
    judged_rest c own (reverse after) (x ∷ reverse before) (subst (IsJudged c own) (from_entry before x after) j)

-- ---- a message is stored where it is genuine and above the last counter

test_stored : (f : Found) (k n : ℕ) (b : Bool) → nat_lt k f.counter ≡ b
    → (stored_by (stored_or_refused (found_where (cond b (Ok tt) (Err (Stale f.counter k))) f)) ≡ Some n) ↔
    ((Some f.counter ≡ Some n) × (k < n))
test_stored f k n true h = (λ s. (s, let e : f.counter ≡ n = cc in grind (arith, nat_tests)), λ p. p.0)
test_stored f k n false h =
    (λ s. cc, λ p. let e : f.counter ≡ n = cc (p.0) in let l : k < n = p.1 in absurd (grind (arith, nat_tests)))

compared_stored : (f : Found) (n : ℕ) (last : Option ℕ)
    → (stored_by (stored_or_refused (compared7 last f)) ≡ Some n) ↔ ((Some f.counter ≡ Some n) × IsAbove n last)
unfolding compared7
compared_stored f n None = (λ s. (s, tt), λ p. p.0)
compared_stored f n (Some k) = test_stored f k n (nat_lt k f.counter) refl

abbrev pub counter : Option Found → Option ℕ
counter o = option_map (λ f. f.counter) o

opened_stored : (mode : Mode) → mode ≡ Seven → (n : ℕ) (last : Option ℕ) (g : Result Found Reason)
    → (stored_by (stored_or_refused (g >>= compared mode last)) ≡ Some n) ↔ ((counter (result_ok g) ≡ Some n) × IsAbove n last)
opened_stored Five m n last g = absurd cc
opened_stored Seven m n last (Err reason) = (λ s. cc, λ p. cc (p.0))
opened_stored Seven m n last (Ok f) = compared_stored f n last

judged_stored : (c : Commissioned) → c.mode ≡ Seven → (n : ℕ) (last : Option ℕ) (b : Result (Option Message) Reason)
    → (stored_by (judged c last b) ≡ Some n) ↔ ((counter (genuine_in c b) ≡ Some n) × IsAbove n last)
judged_stored c h n last (Ok (Some m)) = opened_stored c.mode h n last (opened_in c.mode c m)
judged_stored c h n last _ = (λ s. cc, λ p. cc (p.0))

greater_above : (n x : ℕ) (o : Option ℕ) → IsAbove n (greater x o) ↔ ((x < n) × IsAbove n o)
greater_above n x None = (λ h. (h, tt), λ p. p.0)
greater_above n x (Some y) = (λ h. (omega arith, omega arith), λ p. omega (arith, p.0, p.1))

-- above the greatest is above all
greatest_above : (n : ℕ) (xs : List ℕ) → IsAbove n (greatest xs) ↔ AreBelow n xs
greatest_above n [] = (λ h. tt, λ h. tt)
greatest_above n (x ∷ xs) =
    let g = greater_above n x (greatest xs) in
    let rest = greatest_above n xs in
    (λ h. ((g.0 h).0, rest.0 (g.0 h).1), λ p. g.1 (p.0, rest.1 p.1))

heard_stored : (own : Address) (c : Commissioned) (k : Orders) (access : Access) (response : Bool) (v : Result (Option Found) Reason)
    → stored_counter (heard own c k access response v) ≡ stored_by v
heard_stored own c k access response v = grind arith

none_stored : (n : ℕ) (last o : Option ℕ) → o ≡ None → (o ≡ Some n) ↔ ((None ≡ Some n) × IsAbove n last)
none_stored n last o h = (λ s. cc, λ p. cc (p.0))

answer_stored : (c : Start) (own : Address) (n : ℕ) (earlier : List Entry) (event : Event) → c.mode ≡ Seven
    → (stored_counter (answer (commission_of c) own (standing c earlier) event) ≡ Some n) ↔
    ((counter (genuine c earlier event) ≡ Some n) × IsAbove n (last_counter c earlier))
answer_stored c own n earlier (Hear format at t) m =
    rw heard_stored (judged_stored (rekeyed (commission_of c) (other_key c earlier)) m n (last_counter c earlier)
    (brought (told c earlier) t (received c.mode t)))
answer_stored c own n earlier event m =
    none_stored n (last_counter c earlier) (stored_counter (answer (commission_of c) own (standing c earlier) event)) (grind arith)

last_seven : (c : Start) (earlier : List Entry) → c.mode ≡ Seven
    → last_counter c earlier ≡ greatest (counters c earlier ++ option_to_list c.last)
unfolding last_counter
last_seven c earlier m = ap (λ mode. last_among mode (counters c earlier ++ option_to_list c.last)) m

-- an entry stores exactly what is genuine and above the last counter
entry_stored : (c : Start) (own : Address) (x : Entry) (earlier : List Entry) (n : ℕ) → c.mode ≡ Seven → IsJudged c own (x ∷ earlier)
    → (stored_counter x.outcome ≡ Some n) ↔ ((counter (genuine c earlier x.event) ≡ Some n) × IsAbove n (last_counter c earlier))
unfolding outcome
entry_stored c own x earlier n m j = rw j.0 (answer_stored c own n earlier x.event m)

pub stored_where_genuine : (c : Start) (own : Address) (before : List Entry) (x : Entry) (after : List Entry) (n : ℕ) → c.mode ≡ Seven
    → Legal c own (before ++ x ∷ after)
    → (stored_counter x.outcome ≡ Some n) ↔ ((counter (genuine c (reverse before) x.event) ≡ Some n) × AreBelow n
    (counters c (reverse before) ++ option_to_list c.last))
stored_where_genuine c own before x after n m j =
    let earlier = reverse before in
    let both = entry_stored c own x earlier n m (judged_at c own before x after j) in
    let last = last_seven c earlier m in
    let below = greatest_above n (counters c earlier ++ option_to_list c.last) in
    (λ s. ((both.0 s).0, below.0 (subst (IsAbove n) last (both.0 s).1)), λ p. both.1 (p.0, subst (IsAbove n) (sym last) (below.1 p.1)))

-- ---- stored counters rise

pub IsRising-push : (floor : Option ℕ) (ns : List ℕ) (n : ℕ) → IsRising floor ns → IsAbove n (last_or floor ns)
    → IsRising floor (ns ++ n ∷ [])
IsRising-push floor [] n r h = (h, tt)
IsRising-push floor (k ∷ ns) n r h = (r.0, IsRising-push (Some k) ns n r.1 h)

pub last_or-push : (floor : Option ℕ) (ns : List ℕ) (n : ℕ) → last_or floor (ns ++ n ∷ []) ≡ Some n
last_or-push floor [] n = refl
last_or-push floor (k ∷ ns) n = last_or-push (Some k) ns n

-- the stored counters so far rise, and the last of them is the last counter
record RisesTo (c : Start) (earlier : List Entry) (ns : List ℕ) : Type 0 where
  rises : IsRising c.last ns
  ends : last_or c.last ns ≡ last_counter c earlier

stored_last : (last : Option ℕ) (o : Outcome) (n : ℕ) → stored_counter o ≡ Some n → last_after last o ≡ Some n
stored_last last o n h = grind arith

kept_last : (last : Option ℕ) (o : Outcome) → stored_counter o ≡ None → last_after last o ≡ last
kept_last last o h = grind arith

rises_step : (c : Start) (own : Address) (x : Entry) (earlier : List Entry) (ns : List ℕ) (s : Option ℕ) → c.mode ≡ Seven
    → IsJudged c own (x ∷ earlier)
    → RisesTo c earlier ns → stored_counter x.outcome ≡ s → RisesTo c (x ∷ earlier) (ns ++ cons_option s [])
rises_step c own x earlier ns None m j r h = record {
  rises = rw append-nil r.rises;
  ends = rw append-nil (r.ends ∙ sym (last_counter-cons c own earlier x j.0 ∙ kept_last (last_counter c earlier) x.outcome h));
}
rises_step c own x earlier ns (Some n) m j r h = record {
  rises = IsRising-push c.last ns n r.rises (subst (IsAbove n) (sym r.ends) ((entry_stored c own x earlier n m j).0 h).1);
  ends = last_or-push c.last ns n ∙ sym (last_counter-cons c own earlier x j.0 ∙ stored_last (last_counter c earlier) x.outcome n h);
}

floor_seven : (c : Start) → c.mode ≡ Seven → c.last ≡ last_counter c []
floor_seven c m =
    let alone : c.last ≡ greatest (option_to_list c.last) = grind arith in
    alone ∙ sym (last_seven c [] m)

rises_back : (c : Start) (own : Address) (earlier : List Entry) → c.mode ≡ Seven → IsJudged c own earlier
    → RisesTo c earlier (stored_counters (reverse earlier))
rises_back c own [] m j = record { rises = tt; ends = floor_seven c m }
rises_back c own (x ∷ earlier) m j =
    rw (filtered_back (λ (y : Entry). stored_counter y.outcome) x earlier) (rises_step c own x earlier (stored_counters (reverse earlier)) (stored_counter x.outcome) m j
    (rises_back c own earlier m j.1) refl)

pub stored_counters_rise : (c : Start) (own : Address) (journal : List Entry) → c.mode ≡ Seven → Legal c own journal
    → IsRising c.last (stored_counters journal)
stored_counters_rise c own journal m j =
    subst (λ (xs : List Entry). IsRising c.last (stored_counters xs)) (reverse-reverse journal)
    (rises_back c own (reverse journal) m j).rises

last_back : (c : Start) (own : Address) (journal : List Entry) → c.mode ≡ Seven → Legal c own journal
    → last_stored c journal ≡ last_counter c (reverse journal)
last_back c own journal m j =
    subst (λ (xs : List Entry). last_or c.last (stored_counters xs) ≡ last_counter c (reverse journal)) (reverse-reverse journal)
    (rises_back c own (reverse journal) m j).ends

-- an entry stores exactly what is genuine and above the counter stored last
pub stored_above_last : (c : Start) (own : Address) (before : List Entry) (x : Entry) (after : List Entry) (n : ℕ) → c.mode ≡ Seven
    → Legal c own (before ++ x ∷ after)
    → (stored_counter x.outcome ≡ Some n) ↔ ((counter (genuine c (reverse before) x.event) ≡ Some n) × IsAbove n (last_stored c before))
stored_above_last c own before x after n m j =
    let h = judged_at c own before x after j in
    let legal : Legal c own before = h.1 in
    subst (λ (last : Option ℕ). (stored_counter x.outcome ≡ Some n) ↔
    ((counter (genuine c (reverse before) x.event) ≡ Some n) × IsAbove n last))
    (sym (last_back c own before m legal)) (entry_stored c own x (reverse before) n m h)

result_there : (r : Result Found Reason) (f : Found) → (result_ok r ≡ Some f) ↔ (r ≡ Ok f)
result_there (Ok g) f = (λ h. cc, λ h. cc)
result_there (Err e) f = (λ h. cc, λ h. cc)

pub both_ways : {A B C : Type 0} → A ↔ B → B ↔ C → A ↔ C
both_ways p q = (λ a. q.0 (p.0 a), λ c. p.1 (q.1 c))

opened_seven : (mode : Mode) (c : Commissioned) (m : Message) → mode ≡ Seven → opened_in mode c m ≡ opened7 c m.auth m.bytes
opened_seven Five c m h = cc
opened_seven Seven c m h = refl

pub genuine_by_mac : (c : Start) (earlier : List Entry) (format : Format) (at : ℕ) (t : List ℕ) (m : Message) (f : Found)
    → c.mode ≡ Seven
    → brought (told c earlier) t (received c.mode t) ≡ Ok (Some m) → IsBytes m.bytes
    → (genuine c earlier (Hear format at t) ≡ Some f) ↔ Genuine7 (rekeyed (commission_of c) (other_key c earlier)) m.auth m.bytes f
genuine_by_mac c earlier format at t m f h b bytes =
    let k = rekeyed (commission_of c) (other_key c earlier) in
    let is : genuine c earlier (Hear format at t) ≡ result_ok (opened7 k m.auth m.bytes) =
    ap (genuine_in k) b ∙ ap result_ok (opened_seven c.mode k m h) in
    subst (λ (o : Option Found). (o ≡ Some f) ↔ Genuine7 k m.auth m.bytes f) (sym is)
    (both_ways (result_there (opened7 k m.auth m.bytes) f) (genuine_are_opened k m.auth m.bytes f bytes))

-- ---- a refusal leaves all as it was

refused_last : (last : Option ℕ) (o : Outcome) → IsRefused o → last_after last o ≡ last
refused_last last o r = grind arith

refused_verdict : (own : Address) (c : Commissioned) (k : Orders) (access : Access) (response : Bool) (at : ℕ)
    (v : Result (Option Found) Reason)
    → IsRefused (heard own c k access response v) → reading_at at (stored_in v) ≡ []
refused_verdict own c k access response at v r = grind arith

refused_reading : (c : Commissioned) (own : Address) (s : Standing) (event : Event) → IsRefused (answer c own s event)
    → reading_of event (stored c s event) ≡ []
refused_reading c own s (Hear format at t) r = refused_verdict own c s.orders _ _ at (verdict c s t) r
refused_reading c own s _ r = refl

heard_refused : (k : Orders) (access : Access) (response : Bool) (o : Outcome) → IsRefused o → orders_heard k access response o ≡ k
heard_refused k access response o r = grind arith

put_refused : (k : Orders) (payload : List ℕ) (r : Result ℕ QueueFault) → IsRefused (queued r)
    → record k { queue = with_command_by k.queue payload r } ≡ k
put_refused k payload (Ok id) r = absurd r
put_refused k payload (Err fault) r = refl

cancel_leaves : (k : Orders) (id : ℕ) (r : Result Command NoSuch) → take_answer id k.queue ≡ r → IsRefused (cancelled id r)
    → after_cancel k id ≡ k
cancel_leaves k id (Ok command) h r = absurd r
cancel_leaves k id (Err missing) h r = sym (cancel_refused id k missing h)

answer_refused : (c : Commissioned) (own : Address) (s : Standing) (access : Access) (event : Event) (o : Outcome)
    → o ≡ answer c own s event → IsRefused o → orders_after s.orders access event o ≡ s.orders
unfolding with_command
answer_refused c own s access (Hear format at t) o e r = heard_refused s.orders access _ o r
answer_refused c own s access Tick o e r = absurd (subst IsRefused e r)
answer_refused c own s access (Put payload) o e r = put_refused s.orders payload (put_answer s.orders.queue) (subst IsRefused e r)
answer_refused c own s access (Cancel id) o e r = cancel_leaves s.orders id (take_answer id s.orders.queue) refl (subst IsRefused e r)
answer_refused c own s access (Rekey key) o e r = refl

answer_leaves_key : (c : Commissioned) (own : Address) (s : Standing) (event : Event) (other : Option (List ℕ))
    → IsRefused (answer c own s event) → other_after c.mode event other ≡ other
answer_leaves_key c own s (Rekey key) other r = grind arith
answer_leaves_key c own s _ other r = refl

pub refused_left : (c : Start) (own : Address) (journal : List Entry) (x : Entry) → Legal c own (journal ++ x ∷ [])
    → IsRefused x.outcome
    → IsLeft (record { own = own; start = c; journal = journal }) (record { own = own; start = c; journal = journal ++ x ∷ [] })
unfolding outcome
refused_left c own journal x j r =
    let earlier = reverse journal in
    let s = standing c earlier in
    let h = subst (IsJudged c own) (back journal x) j in
    let refused : IsRefused (answer (commission_of c) own s x.event) = subst IsRefused h.0 r in
    record {
      other = ap (other_key c) (back journal x) ∙ answer_leaves_key (commission_of c) own s x.event (other_key c earlier) refused;
      last = ap (last_counter c) (back journal x) ∙ last_counter-cons c own earlier x h.0 ∙ refused_last (last_counter c earlier) x.outcome r;
      orders = ap (orders c) (back journal x)
          ∙ answer_refused (commission_of c) own s (access_at (commission_of c) s x.event) x.event x.outcome h.0 r;
      readings = readings-append c journal x
          ∙ ap (λ rs. readings c journal ++ rs) (refused_reading (commission_of c) own s x.event refused) ∙ append-nil (readings c journal);
    }

-- ---- one journal

one_journal_back : (c : Start) (own : Address) (earlier : List Entry) → IsJudged c own earlier
    → earlier ≡ judged_journal c own (map call_in earlier)
one_journal_back c own [] j = refl
one_journal_back c own (x ∷ earlier) j =
    let rest = one_journal_back c own earlier j.1 in
    ap (λ o. record { source = x.source; line = x.line; event = x.event; outcome = o } ∷ earlier) j.0
    ∙ ap (λ (e : List Entry). record { source = x.source; line = x.line; event = x.event; outcome = outcome c own e x.event } ∷ e) rest

pub journal_is : (c : Start) (own : Address) (journal : List Entry) → Legal c own journal
    → journal ≡ journal_of c own (map call_in journal)
journal_is c own journal j =
    sym (reverse-reverse journal) ∙ ap reverse (one_journal_back c own (reverse journal) j)
    ∙ ap (λ calls. reverse (judged_journal c own calls)) (map-reverse call_in journal)

judged_journal_judged : (c : Start) (own : Address) (calls : List Call) → IsJudged c own (judged_journal c own calls)
judged_journal_judged c own [] = tt
judged_journal_judged c own (s ∷ calls) = (refl, judged_journal_judged c own calls)

pub journal_of_legal : (c : Start) (own : Address) (calls : List Call) → Legal c own (journal_of c own calls)
journal_of_legal c own calls =
    subst (IsJudged c own) (sym (reverse-reverse (judged_journal c own (reverse calls)))) (judged_journal_judged c own (reverse calls))
