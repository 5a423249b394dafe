-- A meter's slot whose steps are put one by one, and are then let go.
use Rattle.std.proofs.Common.{◌≡◌, ℕ, ◌+◌, ◌-◌, List, [], ◌∷◌, ◌++◌, reverse, length, Option, Some, None, refl, sym, ap, ◌∙◌, subst, arith, append_assoc, append-nil, length-append}
use Rattle.std.specs.Prelude.{slice_get, option_to_list}
use Rattle.std.specs.List.{flat_map, cons_option}
use Rattle.std.proofs.lemmas.List.{length-map}
use Rattle.meter_address.specs.declared.address.Address.{Address}
use Rattle.meter_address.specs.declared.commission.Mode.{Mode}
use Rattle.meter_slots.specs.declared.entry.Entry.{Entry}
use Rattle.meter_slots.specs.declared.entry.Event.{Event}
use Rattle.meter_slots.specs.declared.entry.Outcome.{Outcome}
use Rattle.meter_slots.specs.declared.entry.Outcome.TheVariants.{Stored}
use Rattle.meter_slots.specs.declared.reading.Reading.{Reading}
use Rattle.meter_slots.specs.Journal.{Start, SlotView, Legal, last_counter, orders, outcome, readings, stored_counter}
use Rattle.meter_slots.specs.Laws.{stored_counters}
use Rattle.meter_slots.specs.Passing.{Passing, IsAfter}
use Rattle.meter_slots.specs.Resuming.{known_now, last_of, resumed}
use Rattle.meter_slots.proofs.ReadingLaws.{counters_read}
use Rattle.command_queue.specs.declared.command.Command.{Command}
use Rattle.paper.specs.Puts.{Puts}
use Rattle.paper.specs.Pieces.{text_if}
use Rattle.record_text.specs.RecordText.{records_text}
use Rattle.paper.proofs.Calls.{none, then, once}
use Rattle.paper.proofs.Items.{is_put}
use Rattle.report_text.specs.Report.{answered_text, steps_text, readings_after, last_reading, last_text, pending_text, journal_text, meter_line_text, line_of, orders_now, meter_text, commission_text, numbers_text}
use Rattle.report_text.specs.declared.lent.MeterLine.{MeterLine}
use Rattle.report_text.proofs.LineWalks.{◌⌢◌}
use Rattle.report_text.proofs.LineReport.{commission_is, numbers_front, numbers_is}
use Rattle.audit_check_main.specs.declared.meter_steps.MeterSteps.{MeterSteps}
use Rattle.audit_check_main.specs.Comparing.{Compared, Compares, line_passed, settled}
use Rattle.audit_check_main.specs.MeterSteps.{HasStepped, later_reading, stepped}
use Rattle.audit_check_main.proofs.Compared.{get-there}
use Rattle.audit_check_main.proofs.ComparedLater.{IsLine, compared_later}

-- ---- the text of one step more

-- a step whose readings are there takes none of those behind them
step_alone : (source line : ℕ) (o : Outcome) (kept more : List Reading) (counters : List ℕ)
    → length kept ≡ length (cons_option (stored_counter o) counters)
    → (answered_text source line o (slice_get (kept ++ more) 0) ≡ answered_text source line o (slice_get kept 0))
    × (readings_after o (kept ++ more) ≡ readings_after o kept ++ more) × (length (readings_after o kept) ≡ length counters)
unfolding answered_text
step_alone source line (Stored counter confirmed sent) [] more counters h = absurd (omega arith)
step_alone source line (Stored counter confirmed sent) (r ∷ kept) more counters h = (refl, refl, omega arith)
step_alone source line _ kept more counters h = (refl, refl, h)

steps_alone : (kept more : List Reading) (journal later : List Entry) → length kept ≡ length (stored_counters journal)
    → steps_text (kept ++ more) (journal ++ later) ≡ steps_text kept journal ++ steps_text more later
steps_alone [] more [] later h = refl
steps_alone (r ∷ kept) more [] later h = absurd (omega arith)
steps_alone kept more (e ∷ journal) later h =
    let one = step_alone e.source e.line e.outcome kept more (stored_counters journal) h in
    (λ i. one.0 i ++ steps_text (one.1 i) (journal ++ later))
    ∙ (ap (λ t. answered_text e.source e.line e.outcome (slice_get kept 0) ++ t)
    (steps_alone (readings_after e.outcome kept) more journal later one.2)
    ∙ sym (append_assoc (answered_text e.source e.line e.outcome (slice_get kept 0))
    (steps_text (readings_after e.outcome kept) journal) (steps_text more later)))

one_step : (e : Entry) (reading : Option Reading)
    → steps_text (option_to_list reading) (e ∷ []) ≡ answered_text e.source e.line e.outcome reading
one_step e None = append-nil _
one_step e (Some r) = append-nil _

pub steps_more : (c : Start) (own : Address) (journal : List Entry) (e : Entry) (reading : Option Reading) → Legal c own journal
    → readings c (journal ++ e ∷ []) ≡ readings c journal ++ option_to_list reading
    → steps_text (readings c (journal ++ e ∷ [])) (journal ++ e ∷ [])
    ≡ steps_text (readings c journal) journal ++ answered_text e.source e.line e.outcome reading
steps_more c own journal e reading legal more =
    let long : length (readings c journal) ≡ length (stored_counters journal) =
    sym (length-map (readings c journal) (λ (r : Reading). r.counter)) ∙ ap length (counters_read c own journal legal) in
    ap (λ kept. steps_text kept (journal ++ e ∷ [])) more
    ∙ (steps_alone (readings c journal) (option_to_list reading) journal (e ∷ []) long
    ∙ ap (λ t. steps_text (readings c journal) journal ++ t) (one_step e reading))

-- ---- the last reading

last_more : (kept : List Reading) (reading : Option Reading)
    → later_reading (last_reading kept) reading ≡ last_reading (kept ++ option_to_list reading)
last_more kept None = ap last_reading (sym (append-nil kept))
last_more kept (Some r) =
    let long = length-append kept (r ∷ []) in
    sym (get-there kept r [] (length (kept ++ r ∷ []) - 1) (let e : length (kept ++ r ∷ []) - 1 ≡ length kept = omega arith in e))

-- ---- one step

pub same_slot : (v w : SlotView) (start : Compared) (m : MeterSteps) (now : Compared) → v ≡ w → HasStepped v start m now
    → HasStepped w start m now
same_slot v w start m now e h = subst (λ (x : SlotView). HasStepped x start m now) e h

module _ (slot : SlotView) (start p q : Compared) (kept : MeterSteps) (s : Passing) (source line : ℕ) (event : Event) (given : Outcome)
    (reading : Option Reading) where
  abbrev journal_on : Outcome → List Entry
  journal_on o = slot.journal ++ record { source = source; line = line; event = event; outcome = o } ∷ []

  abbrev kept_on : MeterSteps
  kept_on = record {
    address = kept.address;
    mode = kept.mode;
    slot = s;
    steps = kept.steps + 1;
    readings = kept.readings + length (option_to_list reading);
    last = later_reading kept.last reading;
  }

  pub stepped_on : (now : MeterSteps) → now ≡ kept_on → HasStepped slot start kept p
      → (s.own ≡ kept.slot.own) × (s.start ≡ kept.slot.start)
      → ((journal : List Entry) → IsAfter journal kept.slot
      → given ≡ outcome kept.slot.start kept.slot.own (reverse journal) event)
      → ((journal : List Entry) (n m : ℕ) → IsAfter journal kept.slot
      → IsAfter (journal ++ record { source = n; line = m; event = event; outcome = given } ∷ []) s)
      → ((journal : List Entry) (n m : ℕ) → IsAfter journal kept.slot
      → readings kept.slot.start (journal ++ record { source = n; line = m; event = event; outcome = given } ∷ [])
      ≡ readings kept.slot.start journal ++ option_to_list reading)
      → (shown : Option Reading) → shown ≡ reading → Puts Compares p (answered_text source line given shown) q
      → HasStepped (stepped slot source line event) start now q
  stepped_on now now_is h same answered after reads shown shown_is put =
      subst (λ m. HasStepped (stepped slot source line event) start m q) (sym now_is)
      (subst (λ o. HasStepped (record slot { journal = journal_on o }) start kept_on q) outcome_is at_given)
    where
      outcome_is : given ≡ outcome slot.start slot.own (reverse slot.journal) event
      outcome_is = answered slot.journal h.after ∙ (λ i. outcome (h.same_start i) (h.own_is i) (reverse slot.journal) event)

      legal : Legal slot.start slot.own slot.journal
      legal = subst (λ c. Legal c slot.own slot.journal) h.same_start
          (subst (λ o. Legal kept.slot.start o slot.journal) h.own_is h.after.legal)

      reads_on : readings slot.start (journal_on given) ≡ readings slot.start slot.journal ++ option_to_list reading
      reads_on = subst (λ c. readings c (journal_on given) ≡ readings c slot.journal ++ option_to_list reading) h.same_start
          (reads slot.journal source line h.after)

      at_given : HasStepped (record slot { journal = journal_on given }) start kept_on q
      at_given = record {
        address_is = h.address_is;
        mode_is = h.mode_is;
        own_is = same.0 ∙ h.own_is;
        same_start = same.1 ∙ h.same_start;
        after = after slot.journal source line h.after;
        steps_are = ap (λ n. n + 1) h.steps_are
            ∙ sym (length-append slot.journal (record { source = source; line = line; event = event; outcome = given } ∷ []));
        readings_are = ap (λ n. n + length (option_to_list reading)) h.readings_are
            ∙ (sym (length-append (readings slot.start slot.journal) (option_to_list reading)) ∙ sym (ap length reads_on));
        last_is = ap (λ l. later_reading l reading) h.last_is
            ∙ (last_more (readings slot.start slot.journal) reading ∙ sym (ap last_reading reads_on));
        put = is_put _ _ (steps_more slot.start slot.own slot.journal
            (record { source = source; line = line; event = event; outcome = given }) reading legal reads_on)
            (then h.put (subst (λ o. Puts Compares p (answered_text source line given o) q) shown_is put));
      }

-- nothing is stepped yet
pub nothing_stepped : (own : Address) (c : Start) (address : Address) (mode : Mode) (s : Passing) (paper : Compared)
    → address ≡ c.address → mode ≡ c.mode → s.own ≡ own → s.start ≡ c → IsAfter [] s
    → HasStepped (record { own = own; start = c; journal = [] }) paper
    (record { address = address; mode = mode; slot = s; steps = 0; readings = 0; last = None }) paper
unfolding readings
nothing_stepped own c address mode s paper address_is mode_is own_is start_is after = record {
  address_is = address_is;
  mode_is = mode_is;
  own_is = own_is;
  same_start = start_is;
  after = after;
  steps_are = refl;
  readings_are = refl;
  last_is = refl;
  put = none;
}

-- ---- the whole meter

-- the records of the last reading, and the commands that wait
pub rest_put : (slot : SlotView) (start now p q r : Compared) (kept : MeterSteps) (last : Option Reading) (commands : List Command)
    → HasStepped slot start kept now → last ≡ kept.last → commands ≡ kept.slot.kept.orders.queue.commands
    → Puts Compares p (text_if (λ x. records_text x.payload) last) q → Puts Compares q (flat_map pending_text commands) r
    → Puts Compares p (last_text (readings slot.start slot.journal) ++ flat_map pending_text (orders_now slot).queue.commands) r
unfolding last_text
rest_put slot start now p q r kept last commands h last_is commands_are one two =
    let queue : commands ≡ (orders_now slot).queue.commands =
    commands_are ∙ (ap (λ k. k.queue.commands) h.after.orders_are
    ∙ ap (λ c. (orders c (reverse slot.journal)).queue.commands) h.same_start) in
    then (subst (λ o. Puts Compares p (text_if (λ x. records_text x.payload) o) q) (last_is ∙ h.last_is) one)
    (subst (λ cs. Puts Compares q (flat_map pending_text cs) r) queue two)

-- the last of some readings, of which the first is one that there is
last_is : (r : Reading) (later : List Reading) → last_of (Some r) later ≡ slice_get (r ∷ later) (length later)
last_is r [] = refl
last_is r (s ∷ later) = last_is s later

last_read : (kept : List Reading) → last_reading kept ≡ last_of None kept
last_read [] = refl
last_read (r ∷ later) =
    ap (slice_get (r ∷ later)) (let e : length (r ∷ later) - 1 ≡ length later = omega arith in e) ∙ sym (last_is r later)

-- what is known of the meter now
pub known_kept : (slot : SlotView) (start now : Compared) (kept : MeterSteps) (last : Option Reading) (known : Start)
    → HasStepped slot start kept now → last ≡ kept.last
    → ((journal : List Entry) → IsAfter journal kept.slot → last ≡ last_of None (readings kept.slot.start journal)
    → known ≡ resumed kept.slot.start journal)
    → known ≡ known_now slot
known_kept slot start now kept last known h last_is known_is =
    known_is slot.journal h.after
    (last_is ∙ (h.last_is ∙ (last_read (readings slot.start slot.journal)
    ∙ ap (λ c. last_of None (readings c slot.journal)) (sym h.same_start))))
    ∙ ap (λ c. resumed c slot.journal) h.same_start

pub line_kept : (slot : SlotView) (start now : Compared) (kept : MeterSteps) (last : Option ℕ) (down : ℕ) → HasStepped slot start kept now
    → last ≡ kept.slot.kept.last → down ≡ kept.slot.kept.orders.down
    → record {
      address = kept.address;
      mode = kept.mode;
      last = last;
      down = down;
      steps = kept.steps;
      readings = kept.readings;
    } ≡ line_of slot
line_kept slot start now kept last down h last_is down_is = λ i. record {
  address = h.address_is i;
  mode = h.mode_is i;
  last = (last_is ∙ (h.after.last_is ∙ ap (λ c. last_counter c (reverse slot.journal)) h.same_start)) i;
  down = (down_is ∙ (ap (λ k. k.down) h.after.orders_are
      ∙ ap (λ c. (orders c (reverse slot.journal)).down) h.same_start)) i;
  steps = h.steps_are i;
  readings = h.readings_are i;
}

-- a meter's line is a line
meter_line_is : (l : MeterLine) → IsLine (meter_line_text l)
unfolding numbers_text
meter_line_is l = record {
  front = commission_text l.address l.mode ++ numbers_front l.last l.down l.steps l.readings;
  is = sym (append_assoc (commission_text l.address l.mode) (numbers_front l.last l.down l.steps l.readings) (10 ∷ []));
  without = commission_is l.address l.mode ⌢ numbers_is l.last l.down l.steps l.readings;
}

meter_whole : (slot : SlotView)
    → meter_text slot
    ≡ meter_line_text (line_of slot) ++ (steps_text (readings slot.start slot.journal) slot.journal
    ++ (last_text (readings slot.start slot.journal) ++ flat_map pending_text (orders_now slot).queue.commands))
unfolding meter_text journal_text
meter_whole slot = ap (λ t. meter_line_text (line_of slot) ++ t)
    (append_assoc (steps_text (readings slot.start slot.journal) slot.journal) (last_text (readings slot.start slot.journal))
    (flat_map pending_text (orders_now slot).queue.commands))

-- a meter's line is passed over, its steps and what stands behind them are put, and then its line on a paper of its own
pub meter_put : (slot : SlotView) (p q r s t u : Compared) (kept : MeterSteps) (l : MeterLine) → q ≡ line_passed p
    → HasStepped slot q kept r
    → Puts Compares r (last_text (readings slot.start slot.journal) ++ flat_map pending_text (orders_now slot).queue.commands) s
    → l ≡ line_of slot → Puts Compares p (meter_line_text l) t → u ≡ settled t s → Puts Compares p (meter_text slot) u
meter_put slot p q r s t u kept l passed h rest same line is =
    is_put _ _ (meter_whole slot) (once (compared_later p q t s u _ _ (meter_line_is (line_of slot)) passed
    (subst (λ m. Puts Compares p (meter_line_text m) t) same line) (then h.put rest) is))
