-- A run of several receivers.
use Rattle.std.proofs.Common.{suc, ◌≡◌, ◌≢◌, ◌++◌, ◌+◌, ◌<◌, ◌≤◌, ◌^◌, ℕ, List, [], ◌∷◌, Bool, true, false, Option, Some, None, Result, Ok, Err, inl, inr, refl, sym, ap, ap₂, subst, ◌∙◌, IsTrue, map, length, arith}
use Rattle.std.specs.List.{enumerate_from}
use Rattle.std.proofs.lemmas.List.{length-map}
use Rattle.lists.specs.Each.{Each, EachWith, PassUntil, IsFirst}
use Rattle.lists.proofs.Members.{each_map, with_fold, with_length, with_map}
use Rattle.outer_io.specs.Shown.{Change, SourceShown, SinkShown, ReadFailed, WriteFailed, LosesNothing, IsReadOut, HasText}
use Rattle.outer_io.specs.declared.failures.Failed.{Failed}
use Rattle.outer_io.specs.declared.sources.Source as sources
use Rattle.outer_io.specs.declared.sinks.Sink as sinks
use Rattle.line_reader.specs.Lines.{is_over}
use Rattle.meter_address.specs.declared.address.Address.{Address}
use Rattle.meter_slots.specs.declared.counts.Counts.{Counts}
use Rattle.meter_slots.specs.declared.counts.Ended.{Ended}
use Rattle.meter_slots.specs.declared.counts.Ended.TheVariants as ends
use Rattle.meter_slots.specs.Journal.{Start, SlotView}
use Rattle.meter_slots.specs.Resuming.{known_now}
use Rattle.meter_address.specs.Address.{AreApart}
use Rattle.meter_slots.specs.World.{WorldView}
use Rattle.receivers.specs.Classes.{counts_of}
use Rattle.receivers.specs.Collected.{IsCollected, address_of}
use Rattle.receivers.specs.HeardLines.{HeardLines, HasTaken, IsHeardSession, IsKnown, tellings}
use Rattle.receivers.specs.Receiver.{Receiving}
use Rattle.receivers.specs.Run.{ReceiverRun, receiver_run, receiver_runs, hearing_of, lines_of}
use Rattle.receivers.specs.Works.{Part, HasRun}
use Rattle.receivers.specs.declared.told.Told.{Told}
use Rattle.receivers.proofs.HeardRuns.{heard_session}
use Rattle.report_text.specs.declared.lent.ReceiverEnd.{ReceiverEnd}
use Rattle.report_text.specs.Readings.{readings_text}
use Rattle.report_text.specs.Report.{report_text}
use Rattle.roster_file.specs.Roster.{roster_of}
use Rattle.roster_file.specs.Text.{roster_text}
use Rattle.state_file.specs.Left.{left_roster, left_state}
use Rattle.state_file.specs.Rooms.{HasRoom}
use Rattle.state_file.specs.Whole.{Known, of_roster, state_of}
use Rattle.state_file.specs.Written.{state_text}
use Rattle.collector_main.specs.declared.status.Status.{Status}
use Rattle.collector_main.specs.declared.status.Status.TheVariants as statuses
use Rattle.collector_main.specs.declared.form.Form.{Form}
use Rattle.collector_main.specs.declared.form.Form.TheVariants as forms
use Rattle.collector_main.specs.Begin.{known_of}
use Rattle.collector_main.specs.Heard.{Heard, left_known, next_text, next_of, readings_of, receiver_end, report_of}
use Rattle.collector_main.specs.Ready.{IsEndOf, HaveHeard}
use Rattle.collector_main.specs.declared.together.HeardTogether.{HeardTogether}
use Rattle.collector_main.specs.Run.{Run, Output, IsRun, EndsSo, HasEnded, IsWhole, IsUnwritten, EndIsCaused, IsCausedBy}
use Rattle.receivers.specs.Receiver.{IsFresh}
use Rattle.collector_main.specs.Showing.{all_outputs}
use Rattle.collector_main.specs.Statuses.{IsUnread, was_heard, status_at, stop_at, stop_from, status_after, unwritten, Wrote}
use Rattle.collector_main.proofs.Orders.{with_meet, order_is_told}
use Rattle.collector_main.proofs.Runs.{end_caused, whole_end}

-- ---- the first receiver that stops

some_is : {A : Type 0} (x y : A) → Some x ≡ Some y → x ≡ y
some_is x y e = cc

-- a run ended so
pub record IsEnd (r : ReceiverRun) (e : ReceiverEnd) : Type 0 where
  pub ended : r.ended ≡ Some e.ended
  pub counts : e.counts ≡ r.counts
  pub few : e.counts.lines < 2 ^ 32
  pub found_memory : e.ended ≢ ends.Memory

-- how a receiver stops before its source's end
abbrev IsStopping : Ended → Type 0
IsStopping ends.End = ⊥
IsStopping ends.Memory = ⊥
IsStopping _ = Unit {0}

-- the first receiver that stopped, where the first one of these has the number n
record IsStop (n : ℕ) (runs : List ReceiverRun) (s : Status) : Type 0 where
  number : ℕ
  how : Ended
  stopping : IsStopping how
  is : status_at number how ≡ s
  first : PassUntil (λ x. HasEnded ends.End x.1) (λ x. (x.0 ≡ number) × HasEnded how x.1) (enumerate_from n runs)

abbrev StopsAt : List ReceiverRun → List ReceiverEnd → Type 0
StopsAt runs es = (n : ℕ) (s : Status) → stop_from n es ≡ Some s → IsStop n runs s

one_stops : (r : ReceiverRun) (e : ReceiverEnd) (runs : List ReceiverRun) (es : List ReceiverEnd) → IsEnd r e → EachWith IsEnd runs es
    → StopsAt runs es → StopsAt (r ∷ runs) (e ∷ es)
one_stops r e runs es end each later n s = at e.ended end.ended end.found_memory
  where
    at : (v : Ended) → r.ended ≡ Some v → v ≢ ends.Memory → stop_at n v (stop_from (n + 1) es) ≡ Some s → IsStop n (r ∷ runs) s
    at ends.End ended found stop =
        let l = later (n + 1) s stop in
        record { number = l.number; how = l.how; stopping = l.stopping; is = l.is; first = inr (ended, l.first) }
    at ends.Memory ended found stop = absurd (found refl)
    at how ended found stop = record { number = n; how = how; stopping = tt; is = cc; first = inl (refl, ended) }

stops_from : (runs : List ReceiverRun) (es : List ReceiverEnd) → EachWith IsEnd runs es → StopsAt runs es
stops_from = with_fold IsEnd StopsAt (λ n s none. absurd cc) one_stops

-- where none stops, each one ended at its source's end
abbrev NoneStops : List ReceiverRun → List ReceiverEnd → Type 0
NoneStops runs es = (n : ℕ) → stop_from n es ≡ None → Each (HasEnded ends.End) runs

none_stops : (runs : List ReceiverRun) (es : List ReceiverEnd) → EachWith IsEnd runs es → NoneStops runs es
none_stops = with_fold IsEnd NoneStops (λ n none. tt) (λ r e runs es end each later n. one r e runs es later n e.ended end.ended)
  where
    one : (r : ReceiverRun) (e : ReceiverEnd) (runs : List ReceiverRun) (es : List ReceiverEnd) → NoneStops runs es → (n : ℕ) (v : Ended)
        → r.ended ≡ Some v → stop_at n v (stop_from (n + 1) es) ≡ None → Each (HasEnded ends.End) (r ∷ runs)
    one r e runs es later n ends.End ended none = (ended, later (n + 1) none)
    one r e runs es later n _ ended none = absurd cc

-- and the other way round
all_end : (runs : List ReceiverRun) (es : List ReceiverEnd) → EachWith IsEnd runs es → Each (HasEnded ends.End) runs → (n : ℕ)
    → stop_from n es ≡ None
all_end = with_fold IsEnd (λ runs es. Each (HasEnded ends.End) runs → (n : ℕ) → stop_from n es ≡ None) (λ all n. refl)
    (λ r e runs es end each later all n. let is : ends.End ≡ e.ended = some_is ends.End e.ended (sym all.0 ∙ end.ended) in
    ap (λ v. stop_at n v (stop_from (n + 1) es)) (sym is) ∙ later all.1 (n + 1))

-- ---- one receiver's run

module _ (st : Bool) (directory : List Address) where
  run_caused : (r : ReceiverRun) (p : Part) → r.source_tells ≡ st → HasRun directory r p → EndIsCaused st r r.ended
  run_caused r p knows h =
      subst (EndIsCaused st r) (sym h.ended)
      (end_caused st r h.how (lines_of (hearing_of r h.how)) h.has_heard.read_fault h.tx_fault (λ told. h.has_heard.ending (knows ∙ told)))

  -- what holds of a run that knows whether its source tells
  each_run : (P : ReceiverRun → Type 0) → ((r : ReceiverRun) (p : Part) → r.source_tells ≡ st → HasRun directory r p → P r)
      → (runs : List ReceiverRun) (parts : List Part) → EachWith (HasRun directory) runs parts → Each (λ r. r.source_tells ≡ st) runs
      → Each P runs
  each_run P one = with_fold (HasRun directory) (λ runs parts. Each (λ r. r.source_tells ≡ st) runs → Each P runs) (λ knows. tt)
      (λ r p runs parts h each later knows. (one r p knows.0 h, later knows.1))

  bytes_of_run : (r : ReceiverRun) → LosesNothing r.source → r.source.before.taken ≡ []
      → r.source.now.taken ++ r.source.now.left ≡ r.source.before.left
  bytes_of_run r kept none = kept ∙ ap (λ t. t ++ r.source.before.left) none

  pub all_found : (runs : List ReceiverRun) (es : List ReceiverEnd) → EachWith IsEnd runs es → Each (λ r. r.ended ≢ Some ends.Memory) runs
  all_found = with_fold IsEnd (λ runs es. Each (λ r. r.ended ≢ Some ends.Memory) runs) tt
      (λ r e runs es end each later. (λ is. end.found_memory (some_is e.ended ends.Memory (sym end.ended ∙ is)), later))

  all_faultless : IsTrue st → (runs : List ReceiverRun) (parts : List Part) → EachWith (HasRun directory) runs parts
      → Each (λ r. r.source_tells ≡ st) runs → Each (λ r. IsTrue st → r.source.before.taken ≡ []) runs
      → Each (λ r. r.ended ≢ Some ends.Memory) runs → Each (λ r. is_over r.source.before.left ≡ false) runs
      → Each (λ r. ¬ ReadFailed r.source) runs → Each (λ r. ¬ WriteFailed r.tx) runs → Each (HasEnded ends.End) runs
  all_faultless told = with_fold (HasRun directory)
      (λ runs parts. Each (λ r. r.source_tells ≡ st) runs → Each (λ r. IsTrue st → r.source.before.taken ≡ []) runs
      → Each (λ r. r.ended ≢ Some ends.Memory) runs → Each (λ r. is_over r.source.before.left ≡ false) runs
      → Each (λ r. ¬ ReadFailed r.source) runs → Each (λ r. ¬ WriteFailed r.tx) runs → Each (HasEnded ends.End) runs)
      (λ knows none found within steady tx_steady. tt)
      (λ r p runs parts h each later knows none found within steady tx_steady. (
        h.ended ∙ ap Some (whole_end h.how _ _ _ _ (h.has_heard.ending (knows.0 ∙ told))
            (bytes_of_run r (h.has_heard.no_loss (knows.0 ∙ told)) (none.0 told)) within.0 (λ is. found.0 (h.ended ∙ ap Some is))
            (λ is. steady.0 (h.has_heard.read_fault is)) (λ is. tx_steady.0 (h.tx_fault is))),
        later knows.1 none.1 found.1 within.1 steady.1 tx_steady.1,
      ))

  -- ---- the lines taken

  each_so : IsTrue st → (runs : List ReceiverRun) (heard : List HeardLines) → EachWith (HasTaken directory) runs heard
      → Each (λ r. IsTrue st → r.source.before.taken ≡ []) runs → EachWith (EndsSo directory) runs heard
  each_so told = with_fold (HasTaken directory)
      (λ runs heard. Each (λ r. IsTrue st → r.source.before.taken ≡ []) runs → EachWith (EndsSo directory) runs heard) (λ none. tt)
      (λ r h runs heard one each later none. (
        record { ended = one.ended; lines = one.lines; counts = one.counts; first_bytes = bytes_of_run r one.no_loss (none.0 told) },
        later none.1,
      ))

  abbrev end_by : HeardLines → ReceiverEnd
  end_by h = record { counts = counts_of directory (tellings h); ended = h.ended }

  -- how a receiver ended, and its lines
  record IsEndBy (e : ReceiverEnd) (h : HeardLines) : Type 0 where
    same : e ≡ end_by h
    few : length (tellings h) < 2 ^ 32

  one_end : (r : ReceiverRun) (e : ReceiverEnd) (h : HeardLines) → IsEnd r e → HasTaken directory r h → IsEndBy e h
  unfolding counts_of
  one_end r e h end taken =
      let ended : e.ended ≡ h.ended = some_is e.ended h.ended (sym end.ended ∙ taken.ended) in
      let counts : e.counts ≡ counts_of directory (tellings h) = end.counts ∙ taken.counts in
      record {
        same = ap (λ (n : Counts). let x : ReceiverEnd = record { counts = n; ended = e.ended } in x) counts
            ∙ ap (λ (v : Ended). let x : ReceiverEnd = record { counts = counts_of directory (tellings h); ended = v } in x) ended;
        few = subst (λ n. n < 2 ^ 32) (ap (λ (n : Counts). n.lines) counts) end.few;
      }

  ends_by : (runs : List ReceiverRun) (es : List ReceiverEnd) (heard : List HeardLines) → EachWith IsEnd runs es
      → EachWith (HasTaken directory) runs heard → EachWith IsEndBy es heard
  ends_by runs es heard ended taken =
      with_map (λ e h. (r : ReceiverRun) × IsEnd r e × HasTaken directory r h) IsEndBy (λ e h both. one_end both.0 e h both.1 both.2)
      es heard (with_meet IsEnd (HasTaken directory) runs es heard ended taken)

  pub ends_are : (runs : List ReceiverRun) (es : List ReceiverEnd) (heard : List HeardLines) → EachWith IsEnd runs es
      → EachWith (HasTaken directory) runs heard → es ≡ map end_by heard
  ends_are runs es heard ended taken =
      with_fold IsEndBy (λ es heard. es ≡ map end_by heard) refl (λ e h es heard by each later. ap₂ (λ x xs. x ∷ xs) by.same later)
      es heard (ends_by runs es heard ended taken)

  pub each_short : (runs : List ReceiverRun) (es : List ReceiverEnd) (heard : List HeardLines) → EachWith IsEnd runs es
      → EachWith (HasTaken directory) runs heard → Each (λ (told : List Told). length told < 2 ^ 32) (map tellings heard)
  each_short runs es heard ended taken =
      with_fold IsEndBy (λ es heard. Each (λ (told : List Told). length told < 2 ^ 32) (map tellings heard)) tt
      (λ e h es heard by each later. (by.few, later)) es heard (ends_by runs es heard ended taken)

pub each_known : (st : Bool) (runs : List ReceiverRun) → Each (λ r. r.source_tells ≡ st) runs → IsTrue st → Each IsKnown runs
each_known st runs knows told = each_map (λ (r : ReceiverRun). r.source_tells ≡ st) IsKnown (λ r is. is ∙ told) runs knows

-- ---- outputs

suc_is : {n m : ℕ} → suc n ≡ suc m → n ≡ m
suc_is e = omega (arith, e)

pub text_of : (kt : Bool) (text : List ℕ) (sink : Change SinkShown) (came : Result Unit Failed) → Wrote kt text sink came → IsTrue kt
    → HasText text sink
text_of kt text sink (Ok done) wrote writes = inl (wrote writes)
text_of kt text sink (Err failed) wrote writes = inr (wrote.0, wrote.1 writes)

pub wrote_same : (kt : Bool) (text text' : List ℕ) (sink : Change SinkShown) (came : Result Unit Failed) → text ≡ text'
    → Wrote kt text sink came → Wrote kt text' sink came
wrote_same kt text text' sink came same wrote = subst (λ t. Wrote kt t sink came) same wrote

-- ---- the run

module _ (form : Form) (st kt : Bool) (beginning : Change SourceShown) (runs : List ReceiverRun) (next readings report : Change SinkShown) (e : Known)
    (world : WorldView)
    (es : List ReceiverEnd) where
  abbrev this : Status → Run
  this result = record {
    sources_tell = st;
    sinks_tell = kt;
    form = form;
    beginning = beginning;
    receivers = runs;
    sends = true;
    outputs = all_outputs form next readings report;
    status = result;
  }

  abbrev next_is : List ℕ
  next_is = next_text form e.own world.slots

  abbrev readings_are : List ℕ
  readings_are = readings_text world.slots

  module _ (report_is : List ℕ) where
    -- what the writes came to
    pub record Writes (a b c : Result Unit Failed) : Type 0 where
      pub wrote_next : Wrote kt next_is next a
      pub wrote_readings : Wrote kt readings_are readings b
      pub wrote_report : Wrote kt report_is report c

    all_whole : (a b c : Result Unit Failed) → Writes a b c → unwritten a b c ≡ statuses.Done → IsTrue kt
        → (next.now.written ≡ next_is) × (readings.now.written ≡ readings_are) × (report.now.written ≡ report_is)
    all_whole (Ok _) (Ok _) (Ok _) w is writes = (w.wrote_next writes, w.wrote_readings writes, w.wrote_report writes)
    all_whole _ _ _ w is writes = absurd cc

    -- the first output that couldn't be written, each one before it being such
    first_unwritten : (P : Output → Type 0) (a b c : Result Unit Failed) (which : ℕ) → Writes a b c
        → ((IsTrue kt → next.now.written ≡ next_is) → P (record { number = 1; text = next_of form; sink = next }))
        → ((IsTrue kt → readings.now.written ≡ readings_are) → P (record { number = 2; text = readings_of; sink = readings }))
        → unwritten a b c ≡ statuses.Write which → PassUntil P (IsUnwritten which) (all_outputs form next readings report)
    first_unwritten P (Err _) b c which w p1 p2 is = inl (cc, w.wrote_next.0)
    first_unwritten P (Ok _) (Err _) c which w p1 p2 is = inr (p1 w.wrote_next, inl (cc, w.wrote_readings.0))
    first_unwritten P (Ok _) (Ok _) (Err _) which w p1 p2 is =
        inr (p1 w.wrote_next, inr (p2 w.wrote_readings, inl (cc, w.wrote_report.0)))
    first_unwritten P (Ok _) (Ok _) (Ok _) which w p1 p2 is = absurd cc

    -- a status with its cause, after which the receivers were heard
    abbrev IsHeardBy : Status → Status → Type 0
    IsHeardBy result s = IsCausedBy (this result) s × (was_heard s ≡ true) × (IsUnread s → ⊥)

    heard_writes : (a b c : Result Unit Failed) → Writes a b c → (result : Status) → Each (HasEnded ends.End) runs
        → IsHeardBy result (unwritten a b c)
    heard_writes (Err _) b c w result all = ((all, inl (refl, w.wrote_next.0)), refl, λ unread. unread)
    heard_writes (Ok _) (Err _) c w result all = ((all, inr (tt, inl (refl, w.wrote_readings.0))), refl, λ unread. unread)
    heard_writes (Ok _) (Ok _) (Err _) w result all = ((all, inr (tt, inr (tt, inl (refl, w.wrote_report.0)))), refl, λ unread. unread)
    heard_writes (Ok _) (Ok _) (Ok _) w result all = (all, refl, λ unread. unread)

    heard_stop : (result s : Status) → IsStop 1 runs s → IsHeardBy result s
    heard_stop result s stop = subst (IsHeardBy result) stop.is (at stop.number stop.how stop.stopping stop.first)
      where
        at : (w : ℕ) (how : Ended) → IsStopping how → IsFirst (HasEnded ends.End) (HasEnded how) w runs → IsHeardBy result (status_at w how)
        at w ends.End stopping first = absurd stopping
        at w ends.Memory stopping first = absurd stopping
        at w ends.TxFault stopping first = ((refl, first), refl, λ unread. unread)
        at w _ stopping first = (first, refl, λ unread. unread)

    steady_writes : (a b c : Result Unit Failed) → Writes a b c → ¬ WriteFailed next → ¬ WriteFailed readings → ¬ WriteFailed report
        → unwritten a b c ≡ statuses.Done
    steady_writes (Err _) b c w n r p = absurd (n w.wrote_next.0)
    steady_writes (Ok _) (Err _) c w n r p = absurd (r w.wrote_readings.0)
    steady_writes (Ok _) (Ok _) (Err _) w n r p = absurd (p w.wrote_report.0)
    steady_writes (Ok _) (Ok _) (Ok _) w n r p = refl

  -- ---- together

  -- a status with which no receiver stops
  abbrev IsOther : Status → Type 0
  IsOther statuses.Done = Unit {0}
  IsOther (statuses.Write which) = Unit {0}
  IsOther _ = ⊥

  never : (s : Status) → IsOther s → (w : ℕ) (how : Ended) → IsStopping how → status_at w how ≡ s → ⊥
  never s other w ends.End stopping is = stopping
  never s other w ends.Memory stopping is = stopping
  never s other w _ stopping is = subst IsOther (sym is) other

  module _ (a b c : Result Unit Failed) (w : Writes (report_text es world.slots world.strangers) a b c) (each : EachWith IsEnd runs es)
      (result : Status)
      (result_is : result ≡ status_after (stop_from 1 es) (unwritten a b c)) where
    abbrev plain : List ℕ
    plain = report_text es world.slots world.strangers

    by_stop : (P : Status → Type 0) → (stop_from 1 es ≡ None → P (unwritten a b c)) → ((s : Status) → stop_from 1 es ≡ Some s → P s)
        → P result
    by_stop P none some = at (stop_from 1 es) refl
      where
        at : (o : Option Status) → stop_from 1 es ≡ o → P result
        at None is = subst P (sym (result_is ∙ ap (λ o. status_after o (unwritten a b c)) is)) (none is)
        at (Some s) is = subst P (sym (result_is ∙ ap (λ o. status_after o (unwritten a b c)) is)) (some s is)

    heard_so : IsHeardBy plain result result
    heard_so = by_stop (IsHeardBy plain result) (λ none. heard_writes plain a b c w result (none_stops runs es each 1 none))
        (λ s is. heard_stop plain result s (stops_from runs es each 1 s is))

    -- after this status no receiver stopped
    no_stop : (s : Status) → ((w : ℕ) (how : Ended) → IsStopping how → status_at w how ≡ s → ⊥) → result ≡ s → unwritten a b c ≡ s
    no_stop s not is = by_stop (λ r. r ≡ s → unwritten a b c ≡ s) (λ none same. same)
        (λ t some same. let stop = stops_from runs es each 1 t some in absurd (not stop.number stop.how stop.stopping (stop.is ∙ same))) is

    pub collected_run : (st_is : Each (λ r. r.source_tells ≡ st) runs) → Each (λ r. IsTrue st → r.source.before.taken ≡ []) runs
        → length runs < 2 ^ 32
        → IsCollected e.own e.starts runs world → (IsTrue st → known_of form beginning.before.left ≡ Ok e) → (IsTrue st → IsReadOut beginning)
        → (IsTrue st → LosesNothing beginning) → known_of form (next_text form e.own world.slots) ≡ Ok (left_known form e.own world.slots)
        → IsRun (this result)
    collected_run knows none few collected found read kept left =
        let directory = map address_of e.starts in
        record {
          headline = λ was told.
              let s : IsHeardSession e.own e.starts runs world =
              heard_session e.own e.starts runs world (each_known st runs knows told) collected in
              let heard : Heard = record { known = e; receivers = s.receivers; world = world } in
              let same : plain ≡ report_of heard =
              ap (λ l. report_text l world.slots world.strangers) (ends_are st directory runs es s.receivers each s.taken) in
              let many : length (map tellings s.receivers) ≡ length runs = length-map s.receivers tellings
              ∙ with_length (HasTaken directory) runs s.receivers s.taken in
              let is_report : Wrote kt (report_of heard) report c = wrote_same kt plain (report_of heard) report c same w.wrote_report in
              record {
                heard = heard;
                begun = read told;
                known_is = found told;
                receivers = each_so st directory told runs s.receivers s.taken none;
                session = s.session;
                told = order_is_told e.own (map tellings s.receivers) (omega arith)
                    (each_short st directory runs es s.receivers each s.taken) e.starts world
                    (map (receiver_end heard) s.receivers) s.session;
                sent = λ sends. record { parts = s.parts; lines = s.heard; answers = s.answers; sent = s.sent };
                left = λ sends. left;
                written = λ writes. (
                  text_of kt next_is next a w.wrote_next writes,
                  (
                    text_of kt readings_are readings b w.wrote_readings writes,
                    (text_of kt (report_of heard) report c is_report writes, tt),
                  ),
                );
                whole = λ writes all. let o = all_whole plain a b c w (no_stop statuses.Done (never statuses.Done tt) all) writes in
                    (o.0, (o.1, (o.2 ∙ same, tt)));
                stopped = λ writes which is.
                    first_unwritten plain (IsWhole heard) a b c which w (λ done. done writes) (λ done. done writes)
                    (no_stop (statuses.Write which) (never (statuses.Write which) tt) is);
              };
          status_caused = heard_so.0;
          ends_caused = λ told. each_run st directory (λ r. EndIsCaused st r r.ended) (run_caused st directory) runs collected.parts
              collected.each_run knows;
          refused = λ told fault bad. let yes = found told in absurd cc;
          complete = λ told f. inl (let all =
              all_faultless st directory told runs collected.parts collected.each_run knows none (all_found st directory runs es each) f.within
              f.receivers_steady (f.sinks_steady refl) in
              result_is ∙ ap (λ o. status_after o (unwritten a b c)) (all_end runs es each all 1)
              ∙ steady_writes plain a b c w f.outputs_steady.0 f.outputs_steady.1.0 f.outputs_steady.1.1.0);
          no_loss = λ told. (
            kept told,
            λ shown. each_run st directory (λ r. LosesNothing r.source)
                (λ r p known h. h.has_heard.no_loss (known ∙ told)) runs collected.parts collected.each_run knows,
          );
          silent = λ unheard. let heard = heard_so.1 in absurd cc;
        }

-- ---- what slots leave for the meters that they were made for

same_addresses : {P : Start → SlotView → Type 0} → ((c : Start) (b : SlotView) → P c b → b.start ≡ c) → (cs : List Start) (bs : List SlotView)
    → EachWith P cs bs → map address_of (map known_now bs) ≡ map address_of cs
same_addresses {P} is = with_fold P (λ cs bs. map address_of (map known_now bs) ≡ map address_of cs) refl
    (λ c b cs bs slot each later. ap₂ (λ (x : Start) xs. x.address ∷ xs) (is c b slot) later)

pub left_have_room : (own : Address) (cs : List Start) (runs : List ReceiverRun) (world : WorldView) → HasRoom cs → IsCollected own cs runs world
    → HasRoom (map known_now world.slots)
left_have_room own cs runs world room collected =
    let same = same_addresses (λ c b slot. slot.commission_is) cs world.slots collected.session.meters in
    let many : length (map known_now world.slots) ≡ length cs =
    sym (length-map (map known_now world.slots) address_of) ∙ ap length same ∙ length-map cs address_of in
    record {
      few = subst (λ n. n ≤ 4096) (sym many) room.few;
      apart = subst AreApart (sym same) room.apart;
    }

-- ---- from receivers to their runs

module _ {S K : Type 0} (s : sources.Ghosts S) (k : sinks.Ghosts K) where
  pub runs_known : (olds news : List (Receiving S K)) → Each (λ r. r.source_tells ≡ s.tells) (receiver_runs s k olds news)
  runs_known (o ∷ olds) (n ∷ news) = (refl, runs_known olds news)
  runs_known _ _ = tt

  pub runs_untaken : (olds news : List (Receiving S K)) → Each (λ r. IsTrue s.tells → s.taken r.source ≡ []) olds
      → Each (λ r. IsTrue s.tells → r.source.before.taken ≡ []) (receiver_runs s k olds news)
  runs_untaken (o ∷ olds) (n ∷ news) each = (each.0, runs_untaken olds news each.1)
  runs_untaken _ _ each = tt

  pub runs_ended : (olds news : List (Receiving S K)) (es : List ReceiverEnd) → length news ≡ length olds → EachWith IsEndOf news es
      → EachWith IsEnd (receiver_runs s k olds news) es
  runs_ended [] [] [] many each = tt
  runs_ended [] (n ∷ news) es many each = absurd cc
  runs_ended (o ∷ olds) [] es many each = absurd cc
  runs_ended (o ∷ olds) (n ∷ news) (e ∷ es) many each = (
    record { ended = each.0.ended; counts = each.0.counts; few = each.0.few; found_memory = each.0.found_memory },
    runs_ended olds news es (suc_is many) each.1,
  )
  runs_ended _ _ _ many each = absurd each

  pub runs_many : (olds news : List (Receiving S K)) → length news ≡ length olds → length (receiver_runs s k olds news) ≡ length olds
  runs_many [] news many = refl
  runs_many (o ∷ olds) [] many = absurd cc
  runs_many (o ∷ olds) (n ∷ news) many = ap (λ l. suc l) (runs_many olds news (suc_is many))

  -- fresh receivers that stay as they are
  pub fresh_caused : (rs : List (Receiving S K)) → Each IsFresh rs → Each (λ r. EndIsCaused s.tells r r.ended) (receiver_runs s k rs rs)
  fresh_caused [] fresh = tt
  fresh_caused (r ∷ rs) fresh = (subst (EndIsCaused s.tells (receiver_run s k r r)) (sym fresh.0) tt, fresh_caused rs fresh.1)

  pub same_keeps : (rs : List (Receiving S K)) → Each (λ r. LosesNothing r.source) (receiver_runs s k rs rs)
  same_keeps [] = tt
  same_keeps (r ∷ rs) = (refl, same_keeps rs)

  -- what receivers heard together
  left_is : (e : Known) (slots : List SlotView) → state_of (state_text (left_state e.own slots)) ≡ Ok (left_state e.own slots)
      → roster_of (roster_text (left_roster e.own slots)) ≡ Ok (left_roster e.own slots)
      → (form : Form) → known_of form (next_text form e.own slots) ≡ Ok (left_known form e.own slots)
  left_is e slots state roster forms.Roster = ap of_roster roster
  left_is e slots state roster forms.State = state

  pub heard_is : (e : Known) (olds olds' news news' : List (Receiving S K)) (h : HeardTogether)
      → state_of (state_text (left_state e.own h.collected.slots.items)) ≡ Ok (left_state e.own h.collected.slots.items)
      → roster_of (roster_text (left_roster e.own h.collected.slots.items)) ≡ Ok (left_roster e.own h.collected.slots.items)
      → olds' ≡ olds → news' ≡ news → Each (λ r. IsTrue s.tells → s.taken r.source ≡ []) olds'
      → IsCollected e.own e.starts (receiver_runs s k olds news)
      (record { slots = h.collected.slots.items; strangers = h.collected.strangers })
      → length news ≡ length olds → EachWith IsEndOf news' h.ends.items → HaveHeard s k e olds news h
  heard_is e olds olds' news news' h state roster o n untaken collected many ended = record {
    untaken = subst (λ l. Each (λ r. IsTrue s.tells → s.taken r.source ≡ []) l) o untaken;
    collected = collected;
    left = left_is e h.collected.slots.items state roster;
    as_many = many;
    receiver_ends = subst (λ l. EachWith IsEndOf l h.ends.items) n ended;
  }

  module _ (form : Form) (beginning : Change SourceShown) (next readings report : Change SinkShown) (e : Known) (olds news : List (Receiving S K))
      (heard : HeardTogether)
      (is : HaveHeard s k e olds news heard) (few : length olds < 2 ^ 32) (a b c : Result Unit Failed)
      (wrote_next : Wrote k.tells (next_text form e.own heard.collected.slots.items) next a)
      (wrote_readings : Wrote k.tells (readings_text heard.collected.slots.items) readings b)
      (wrote_report : Wrote k.tells (report_text heard.ends.items heard.collected.slots.items heard.collected.strangers) report c)
      (stop : Option Status) (stop_is : stop ≡ stop_from 1 heard.ends.items) (result : Status)
      (result_is : result ≡ status_after stop (unwritten a b c)) where
    abbrev runs : List ReceiverRun
    runs = receiver_runs s k olds news

    abbrev world : WorldView
    world = record { slots = heard.collected.slots.items; strangers = heard.collected.strangers }

    abbrev result_so : result ≡ status_after (stop_from 1 heard.ends.items) (unwritten a b c)
    result_so = result_is ∙ ap (λ o. status_after o (unwritten a b c)) stop_is

    ended : EachWith IsEnd runs heard.ends.items
    ended = runs_ended olds news heard.ends.items is.as_many is.receiver_ends

    writes : Writes form s.tells k.tells beginning runs next readings report e world heard.ends.items
        (report_text heard.ends.items heard.collected.slots.items heard.collected.strangers) a b c
    writes = record { wrote_next = wrote_next; wrote_readings = wrote_readings; wrote_report = wrote_report }

    pub together_run : (IsTrue s.tells → known_of form beginning.before.left ≡ Ok e) → (IsTrue s.tells → IsReadOut beginning)
        → (IsTrue s.tells → LosesNothing beginning)
        → IsRun (this form s.tells k.tells beginning runs next readings report e world heard.ends.items result)
    together_run found read kept =
        let many = runs_many olds news is.as_many in
        collected_run form s.tells k.tells beginning runs next readings report e world heard.ends.items a b c writes ended result result_so
        (runs_known olds news) (runs_untaken olds news is.untaken) (omega arith) is.collected found read kept (is.left form)

    pub together_heard : IsUnread result → ⊥
    together_heard =
        (heard_so form s.tells k.tells beginning runs next readings report e world heard.ends.items a b c writes ended result result_so).2
