-- What a slot sends is executed, and nothing is twice.
use Rattle.std.proofs.Common.{◌≡◌, ℕ, zero, suc, ◌<◌, ◌≤◌, Bool, true, false, cond, List, [], ◌∷◌, ◌++◌, length, get_or, drop, map, filter, Option, Some, None, Result, Ok, refl, sym, ap, ◌∙◌, subst, arith}
use Rattle.std.specs.List.{All, AllPairs, Contains, cons_option}
use Rattle.std.proofs.lemmas.Bool.{lt-ltb}
use Rattle.std.proofs.lemmas.List.Elements.{All-nil, All-cons, All-head, All-tail, All-append}
use Rattle.std.proofs.lemmas.List.Kept.{AllPairs-cons}
use Rattle.aes_block.specs.Block.{IsBlock}
use Rattle.meter_address.specs.declared.address.Address.{Address}
use Rattle.meter_address.specs.Commission.{Commissioned}
use Rattle.meter_slots.specs.Journal.{commission_of}
use Rattle.meter_slots.specs.Resuming.{joined}
use Rattle.meter_slots.proofs.Cuts.{legal_through}
use Rattle.downlink_maker.specs.Sent.{Sent}
use Rattle.downlink_maker.specs.Downlink.{plain_content}
use Rattle.downlink_maker.specs.Parts.{IsPayload}
use Rattle.meter_slots.specs.declared.entry.Entry.{Entry}
use Rattle.meter_slots.specs.declared.entry.Outcome.{Outcome}
use Rattle.meter_slots.specs.declared.entry.Outcome.TheVariants.{Stored, PartKept, Ticked, Queued, Cancelled, Rekeyed, Refused}
use Rattle.meter_slots.specs.Laws.{sent_counter, sent_counters, downlinks_of, downlinks_in, CarriesPayload, IsAbove, IsRising}
use Rattle.meter_slots.proofs.DownlinkLaws.{downlink_counters_rise}
use Rattle.meter_slots.proofs.PayloadLaws.{downlinks_carry}
use Rattle.meter_side_main.specs.declared.delivery.Executed.{Executed}
use Rattle.meter_side_main.specs.declared.reason.SideReason.{SideReason}
use Rattle.meter_side_main.specs.Reading.{told, did_with, executed_in, last_after, executed_after}
use Rattle.meter_side_main.specs.Genuine.{IsGenuine, RiseAbove}
use Rattle.meter_side_main.proofs.Genuineness.{genuine_is_told}
use Rattle.meter_side_main.proofs.Executing.{Silent, Done, Old, move, executed_none, executed_step, executed_rises}
use Rattle.meter_side_main.proofs.Others.{others_change_nothing}
use Rattle.both_ends.specs.Laws.{bytes_of, AreAllExecuted, SentAreExecuted, IsOf, NoneTwice, NoneTwiceOverSessions}

-- ---- the downlinks of some entries

module _ (P : Sent → Type 0) where
  All-left : (xs ys : List Sent) → All P (xs ++ ys) → All P xs
  All-left [] ys h = All-nil P
  All-left (x ∷ xs) ys h = All-cons P x xs (All-head P x (xs ++ ys) h) (All-left xs ys (All-tail P x (xs ++ ys) h))

  All-right : (xs ys : List Sent) → All P (xs ++ ys) → All P ys
  All-right [] ys h = h
  All-right (x ∷ xs) ys h = All-right xs ys (All-tail P x (xs ++ ys) h)

  kept : (x : Entry) (chosen : List Entry) (b : Bool) → All P (downlinks_of x.outcome) → All P (downlinks_in chosen)
      → All P (downlinks_in (cond b (x ∷ chosen) chosen))
  kept x chosen true one rest = All-append P (downlinks_of x.outcome) (downlinks_in chosen) one rest
  kept x chosen false one rest = rest

  All-chosen : (chosen : Entry → Bool) (entries : List Entry) → All P (downlinks_in entries) → All P (downlinks_in (filter chosen entries))
  All-chosen chosen [] h = h
  All-chosen chosen (x ∷ entries) h =
      kept x (filter chosen entries) (chosen x) (All-left (downlinks_of x.outcome) (downlinks_in entries) h)
      (All-chosen chosen entries (All-right (downlinks_of x.outcome) (downlinks_in entries) h))

-- ---- their counters rise

counted_in : (o : Outcome) (ss : List Sent)
    → map (λ (s : Sent). s.down) (downlinks_of o ++ ss) ≡ cons_option (sent_counter o) (map (λ (s : Sent). s.down) ss)
counted_in (Stored counter confirmed None) ss = refl
counted_in (Stored counter confirmed (Some s)) ss = refl
counted_in PartKept ss = refl
counted_in (Ticked expired) ss = refl
counted_in (Queued id) ss = refl
counted_in (Cancelled id) ss = refl
counted_in Rekeyed ss = refl
counted_in (Refused reason) ss = refl

counters_are : (entries : List Entry) → map (λ (s : Sent). s.down) (downlinks_in entries) ≡ sent_counters entries
counters_are [] = refl
counters_are (x ∷ entries) = counted_in x.outcome (downlinks_in entries) ∙ ap (cons_option (sent_counter x.outcome)) (counters_are entries)

above_both : (floor : Option ℕ) (n k : ℕ) → IsAbove n floor → n < k → IsAbove k floor
above_both None n k h l = tt
above_both (Some m) n k h l = omega arith

from_lower : (floor : Option ℕ) (n : ℕ) (ns : List ℕ) → IsAbove n floor → IsRising (Some n) ns → IsRising floor ns
from_lower floor n [] h r = tt
from_lower floor n (k ∷ ns) h r = (above_both floor n k h r.0, r.1)

choose : (floor : Option ℕ) (x : Entry) (chosen : List Entry) (ns : List ℕ) (b : Bool) (s : Option ℕ) → sent_counter x.outcome ≡ s
    → ((f : Option ℕ) → IsRising f ns → IsRising f (sent_counters chosen)) → IsRising floor (cons_option s ns)
    → IsRising floor (sent_counters (cond b (x ∷ chosen) chosen))
choose floor x chosen ns true None e more r = rw e (more floor r)
choose floor x chosen ns true (Some n) e more r = rw e (r.0, more (Some n) r.1)
choose floor x chosen ns false None e more r = more floor r
choose floor x chosen ns false (Some n) e more r = from_lower floor n (sent_counters chosen) r.0 (more (Some n) r.1)

chosen_rise : (chosen : Entry → Bool) (entries : List Entry) (floor : Option ℕ) → IsRising floor (sent_counters entries)
    → IsRising floor (sent_counters (filter chosen entries))
chosen_rise chosen [] floor r = r
chosen_rise chosen (x ∷ entries) floor r =
    choose floor x (filter chosen entries) (sent_counters entries) (chosen x) (sent_counter x.outcome) refl
    (λ f. chosen_rise chosen entries f) r

-- ---- and so they are executed

-- what a downlink tells its meter
abbrev told_of : (own : Address) (c : Commissioned) (s : Sent) → CarriesPayload own c s → Executed
told_of own c s carries = record { down = s.down; content = drop 2 (plain_content carries.payload) }

genuine : (own : Address) (c : Commissioned) (s : Sent) (carries : CarriesPayload own c s)
    → IsGenuine own c s.bytes (told_of own c s carries)
genuine own c s carries =
    let is : IsPayload carries.payload =
    record { least = carries.is_payload.least; most = carries.is_payload.most; bytes = carries.is_payload.bytes } in
    record { payload = carries.payload; is_payload = is; counter = carries.counter; frame = carries.bytes; content = refl }

did_execute : (last : ℕ) (e : Executed) (r : Result Executed SideReason) → r ≡ Ok e → last < e.down
    → (executed_in (did_with last r) ≡ e ∷ []) × (last_after last (did_with last r) ≡ e.down)
did_execute last e r is above = (rw (is, lt-ltb last e.down above) refl, rw (is, lt-ltb last e.down above) refl)

module _ (own : Address) (c : Commissioned) (key : IsBlock c.key) where
  all_executed : (ss : List Sent) → All (CarriesPayload own c) ss → (last : ℕ) → IsRising (Some last) (map (λ (s : Sent). s.down) ss)
      → AreAllExecuted own c ss (executed_after own c last (bytes_of ss))
  all_executed [] h last r = executed_none own c last
  all_executed (s ∷ ss) h last r =
      let one : CarriesPayload own c s = All-head (CarriesPayload own c) s ss h in
      let e : Executed = told_of own c s one in
      let is = genuine own c s one in
      let did = did_execute last e (told own c s.bytes) (genuine_is_told own c s.bytes e key is) r.0 in
      subst (AreAllExecuted own c (s ∷ ss)) (sym (executed_step own c last s.bytes (bytes_of ss) (e ∷ []) s.down did.0 did.1))
      (refl, is, all_executed ss (All-tail (CarriesPayload own c) s ss h) s.down r.1)

pub sent_are_executed : SentAreExecuted
sent_are_executed c own journal chosen other ds j d =
    let m : Commissioned = commission_of c in
    let entries : List Entry = filter chosen journal in
    let carry = All-chosen (CarriesPayload own m) chosen journal (downlinks_carry own c journal j.ready j.legal j.payloads) in
    let alone = all_executed own m j.key (downlinks_in entries) carry m.down
    (subst (IsRising (Some m.down)) (sym (counters_are entries))
    (chosen_rise chosen journal (Some m.down) (downlink_counters_rise c own journal j.legal))) in
    let same = others_change_nothing own m other ds j.key d.bytes d.others ∙ ap (executed_after own m m.down) d.in_order in
    subst (AreAllExecuted own m (downlinks_in entries)) (sym same) alone

-- ---- nothing is executed twice

-- what is told by a downlink that was sent
told_by_sent : (own : Address) (c : Commissioned) (s : Sent) (e : Executed) → IsBlock c.key → CarriesPayload own c s
    → told own c s.bytes ≡ Ok e → (e.down ≡ s.down) × IsGenuine own c s.bytes e
told_by_sent own c s e key one is =
    let x : Executed = told_of own c s one in
    let g = genuine own c s one in
    let both : Ok x ≡ Ok e = sym (genuine_is_told own c s.bytes x key g) ∙ is in
    let same : x ≡ e = cc in
    (sym (ap (λ (y : Executed). y.down) same), subst (IsGenuine own c s.bytes) same g)

-- the downlink of these bytes
record IsSentAs (sent : List Sent) (P : Sent → Type 0) (d : List ℕ) : Type 0 where
  downlink : Sent
  among : Contains sent downlink
  holds : P downlink
  bytes : d ≡ downlink.bytes

found_at : (P : Sent → Type 0) (sent : List Sent) (k : ℕ) (d : List ℕ) → All P sent → k < length (bytes_of sent)
    → get_or (bytes_of sent) k d ≡ d → IsSentAs sent P d
found_at P [] k d h within e = absurd (omega arith)
found_at P (s ∷ sent) zero d h within e =
    record { downlink = s; among = (0, omega arith, refl); holds = All-head P s sent h; bytes = sym e }
found_at P (s ∷ sent) (suc k) d h within e =
    let rest = found_at P sent k d (All-tail P s sent h) (omega arith) e in
    record {
      downlink = rest.downlink;
      among = (suc rest.among.0, omega (arith, rest.among.1), rest.among.2);
      holds = rest.holds;
      bytes = rest.bytes;
    }

found_among : (P : Sent → Type 0) (sent : List Sent) (d : List ℕ) → All P sent → Contains (bytes_of sent) d → IsSentAs sent P d
found_among P sent d h found = found_at P sent found.0 d h found.1 found.2

executed_were_sent : (own : Address) (c : Commissioned) (sent : List Sent) → IsBlock c.key → All (CarriesPayload own c) sent
    → (ds : List (List ℕ)) → All (Contains (bytes_of sent)) ds → (last : ℕ)
    → All (IsOf own c sent) (executed_after own c last ds)
executed_were_sent own c sent key h [] d last = subst (All (IsOf own c sent)) (sym (executed_none own c last)) (All-nil (IsOf own c sent))
executed_were_sent own c sent key h (d ∷ ds) o last = elim (move last (told own c d)) [
  | Silent none done next ↦ subst (All (IsOf own c sent)) (sym (executed_step own c last d ds [] last done next))
      (executed_were_sent own c sent key h ds (All-tail (Contains (bytes_of sent)) d ds o) last)
  | Old e is old done next ↦ subst (All (IsOf own c sent)) (sym (executed_step own c last d ds [] last done next))
      (executed_were_sent own c sent key h ds (All-tail (Contains (bytes_of sent)) d ds o) last)
  | Done e is above done next ↦
      let one = found_among (CarriesPayload own c) sent d h (All-head (Contains (bytes_of sent)) d ds o) in
      let by = told_by_sent own c one.downlink e key one.holds (ap (told own c) (sym one.bytes) ∙ is) in
      subst (All (IsOf own c sent)) (sym (executed_step own c last d ds (e ∷ []) e.down done next))
      (All-cons (IsOf own c sent) e (executed_after own c e.down ds) (one.downlink, one.among, by.0, by.1)
      (executed_were_sent own c sent key h ds (All-tail (Contains (bytes_of sent)) d ds o) e.down))
]

rising_above : (m n : ℕ) (es : List Executed) → m ≤ n → RiseAbove n es → All (λ (e : Executed). m < e.down) es
rising_above m n [] h r = All-nil (λ (e : Executed). m < e.down)
rising_above m n (e ∷ es) h r = let first : n < e.down = r.0 in
    All-cons (λ (x : Executed). m < x.down) e es (omega arith) (rising_above m e.down es (omega arith) r.1)

rising_pairs : (n : ℕ) (es : List Executed) → RiseAbove n es → AllPairs (λ (e f : Executed). e.down < f.down) es
rising_pairs n [] r = λ i j d h l. absurd (omega arith)
rising_pairs n (e ∷ es) r = AllPairs-cons (λ (x y : Executed). x.down < y.down) e es (rising_above e.down e.down es (omega arith) r.1)
    (rising_pairs e.down es r.1)

pub none_twice : NoneTwice
none_twice c own journal ds j o =
    let m : Commissioned = commission_of c in (
      executed_were_sent own m (downlinks_in journal) j.key (downlinks_carry own c journal j.ready j.legal j.payloads) ds o m.down,
      rising_pairs m.down (executed_after own m m.down ds) (executed_rises own m m.down ds),
    )

pub none_over_sessions : NoneTwiceOverSessions
none_over_sessions c own first later ds legal ready key payloads o =
    none_twice c own (joined (first ∷ later)) ds
    (record { legal = (legal_through c own first later).0 legal; ready = ready; key = key; payloads = payloads }) o
