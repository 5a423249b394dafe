-- What the collector wrote is faithful.
use Rattle.std.proofs.Common.{◌≡◌, ◌⊎◌, ℕ, ◌<◌, ◌≤◌, ◌^◌, false, IsTrue, List, [], ◌∷◌, ◌++◌, map, length, Option, Some, None, Ok, ⊎_elim, inl, inr, refl, sym, ap, ◌∙◌, subst, arith, append-nil, length-append}
use Rattle.std.specs.Prelude.{IfSome}
use Rattle.std.specs.List.{Contains}
use Rattle.std.proofs.lemmas.Bool.{cases_lt, ltb-false, or_parts}
use Rattle.std.proofs.lemmas.Bool.Decides.{nat_tests}
use Rattle.std.proofs.lemmas.List.{length-map}
use Rattle.std.proofs.lemmas.Option.{same_Some}
use Rattle.lists.specs.Each.{Each, EachWith}
use Rattle.lists.proofs.Members.{with_fold, with_length}
use Rattle.outer_io.specs.Shown.{Change, SourceShown}
use Rattle.line_reader.specs.Lines.{is_over, all_lines}
use Rattle.meter_address.specs.declared.address.Address.{Address}
use Rattle.meter_slots.specs.Journal.{SlotView}
use Rattle.meter_slots.specs.World.{WorldView}
use Rattle.meter_slots.specs.declared.counts.Ended.TheVariants as ends
use Rattle.receivers.specs.declared.told.Told.{Told}
use Rattle.receivers.specs.Classes.{counts_of}
use Rattle.receivers.specs.Ending.{IsEnding}
use Rattle.receivers.specs.HeardLines.{HeardLines, tellings}
use Rattle.receivers.specs.Run.{ReceiverRun}
use Rattle.receivers.specs.Session.{IsMetersSlot, IsSession}
use Rattle.receivers.specs.Told.{told_of}
use Rattle.report_text.specs.declared.lent.ReceiverEnd.{ReceiverEnd}
use Rattle.report_text.specs.Orders.{orders}
use Rattle.report_text.specs.OrdersLaw.{orders_of}
use Rattle.report_text.specs.Report.{report_text}
use Rattle.state_file.specs.Left.{left_state}
use Rattle.state_file.specs.Whole.{Known, state_of}
use Rattle.state_file.proofs.TooLong.{too_long}
use Rattle.collector_main.specs.declared.form.Form.{Form}
use Rattle.collector_main.specs.declared.form.Form.TheVariants as forms
use Rattle.collector_main.specs.Begin.{known_of}
use Rattle.collector_main.specs.Heard.{addresses, left_known, next_of, report_of}
use Rattle.collector_main.specs.Run as collector
use Rattle.collector_main.specs.Showing.{report_output}
use Rattle.collector_main.specs.Statuses.{was_heard}
use Rattle.collector_main.proofs.MacRuns.{form_known}
use Rattle.collector_main.proofs.Orders.{slots_counted, strangers_counted}
use Rattle.audit_check_main.specs.Audit.{Audited, told_in, heard_out, IsReadable, IsInForm, IsFaithful, IsVerdict}
use Rattle.audit_check_main.specs.Leaving.{IsLeftBy}
use Rattle.audit_check_main.specs.Lists.{lists_printed}
use Rattle.audit_check_main.specs.Run as audit
use Rattle.audit_check_main.specs.Run.{IsReadPast, IsNextRead, HasVerdict}
use Rattle.audit_check_main.specs.declared.status.AuditStatus.{AuditStatus}
use Rattle.audit_check_main.specs.declared.status.AuditStatus.TheVariants as answers
use Rattle.audit_check_main.specs.declared.verdict.Cause.{Cause}
use Rattle.audit_check_main.specs.declared.verdict.Verdict.{Verdict}
use Rattle.audit_check_main.specs.declared.verdict.Verdict.TheVariants.{Yes, No}
use Rattle.audit_check_main.proofs.HeardLists.{few_lines}
use Rattle.audit_check_main.proofs.InForm.{report_in_form}
use Rattle.audit_check_main.proofs.OneVerdict.{one_verdict}
use Rattle.audit_check_main.proofs.Steps.{each_at}
use Rattle.audit_check_main.proofs.Verdicts.{lines_within}
use Rattle.audit_laws.specs.Laws.{IsAudited, IsNextOf}

-- ---- a receiver that heard an input to its end

abbrev bytes_heard : ReceiverRun → List ℕ
bytes_heard r = r.source.before.left

record HeardOut (input : List ℕ) (heard : HeardLines) : Type 0 where
  within : is_over input ≡ false
  all : heard.lines ≡ all_lines input
  ended : heard.ended ≡ ends.End

heard_one : (cs : List Address) (run : ReceiverRun) (heard : HeardLines) → run.ended ≡ Some ends.End → collector.EndsSo cs run heard
    → HeardOut (bytes_heard run) heard
heard_one cs run heard ended so =
    let at_end : heard.ended ≡ ends.End = same_Some heard.ended ends.End (sym so.ended ∙ ended) in
    let lines = subst (λ e. IsEnding e run.source.now.taken run.source.now.left heard.lines) at_end so.lines in
    let whole : run.source.now.taken ≡ bytes_heard run =
    sym (append-nil run.source.now.taken) ∙ (ap (λ l. run.source.now.taken ++ l) (sym lines.nothing_left) ∙ so.first_bytes) in
    record { within = ap is_over (sym whole) ∙ lines.within; all = lines.all ∙ ap all_lines whole; ended = at_end }

heard_each : (cs : List Address) (runs : List ReceiverRun) (heard : List HeardLines) → Each (collector.HasEnded ends.End) runs
    → EachWith (collector.EndsSo cs) runs heard → EachWith HeardOut (map bytes_heard runs) heard
heard_each cs runs heard ended so = with_fold (collector.EndsSo cs)
    (λ runs heard. Each (collector.HasEnded ends.End) runs → EachWith HeardOut (map bytes_heard runs) heard) (λ ended. tt)
    (λ r h runs heard one _ rest ended. (heard_one cs r h ended.0 one, rest ended.1)) runs heard so ended

all_within : (inputs : List (List ℕ)) (heard : List HeardLines) → EachWith HeardOut inputs heard
    → Each (λ input. is_over input ≡ false) inputs
all_within = with_fold HeardOut (λ inputs heard. Each (λ input. is_over input ≡ false) inputs) tt (λ i x inputs heard one _ rest. (one.within, rest))

all_told : (inputs : List (List ℕ)) (heard : List HeardLines) → EachWith HeardOut inputs heard → map tellings heard ≡ map told_in inputs
all_told = with_fold HeardOut (λ inputs heard. map tellings heard ≡ map told_in inputs) refl
    (λ i x inputs heard one _ rest. (λ k. map told_of (one.all k) ∷ rest k))

abbrev end_with : List Address → HeardLines → ReceiverEnd
end_with cs r = record { counts = counts_of cs (tellings r); ended = r.ended }

all_ends : (cs : List Address) (inputs : List (List ℕ)) (heard : List HeardLines) → EachWith HeardOut inputs heard
    → map (end_with cs) heard ≡ map (heard_out cs) inputs
all_ends cs = with_fold HeardOut (λ inputs heard. map (end_with cs) heard ≡ map (heard_out cs) inputs) refl
    (λ i x inputs heard one _ rest. (λ k. record { counts = counts_of cs (map told_of (one.all k)); ended = one.ended k } ∷ rest k))

-- ---- limits

bytes_within : (input : List ℕ) → is_over input ≡ false → length input ≤ 67108864
unfolding is_over
bytes_within input h = ltb-false 67108864 (length input) (or_parts _ _ h).0

few_told : (inputs : List (List ℕ)) → Each (λ input. is_over input ≡ false) inputs
    → Each (λ (heard : List Told). length heard < 2 ^ 32) (map told_in inputs)
few_told [] h = tt
few_told (i ∷ inputs) h = (
  let few = few_lines i h.0 in let long = length-map (all_lines i) told_of in let same = ap length (lines_within i h.0) in omega arith,
  few_told inputs h.1,
)

is_short : (text : List ℕ) (r : Known) → state_of text ≡ Ok r → length text ≤ 134217728
is_short text r h = ⊎_elim (λ test. absurd (let bad = too_long text (grind (arith, nat_tests)) in cc)) (λ few. few)
    (cases_lt 134217728 (length text))

-- ---- a session of what some inputs tell

module _ (state : List ℕ) (inputs : List (List ℕ)) (r : Known) (world : WorldView) (state_is : state_of state ≡ Ok r)
    (within : Each (λ input. is_over input ≡ false) inputs) (few : length inputs ≤ 16)
    (session : IsSession r.own r.starts (map told_in inputs) world) (next : Option (List ℕ)) (left : IfSome next (IsLeftBy r.own world.slots))
  where
    abbrev text : List ℕ
    text = report_text (map (heard_out (map (λ c. c.address) r.starts)) inputs) world.slots world.strangers

    abbrev audited : Audited
    audited = record { state = state; next = next; report = text; inputs = inputs }

    few_receivers : length (map told_in inputs) < 2 ^ 32
    few_receivers = let same = length-map inputs told_in in omega arith

    readable : IsReadable audited r
    readable = record { state_is = state_is; within = within }

    in_form : IsInForm audited r
    in_form = record {
      readable = readable;
      in_form = report_in_form (length r.starts) (map (heard_out (map (λ c. c.address) r.starts)) inputs) world.slots world.strangers
          (let same = with_length (IsMetersSlot r.own (map told_in inputs)) r.starts world.slots session.meters in omega arith)
          (slots_counted r.own (map told_in inputs) few_receivers (few_told inputs within) r.starts world.slots session.meters)
          (strangers_counted r.own (map told_in inputs) few_receivers (few_told inputs within) r.starts world session);
    }

    faithful : orders text ≡ orders_of world.slots world.strangers → IsFaithful audited
    faithful told = record {
      known = r;
      world = world;
      ordered = record { form = in_form; session = session; printed = ap (lists_printed (length r.starts)) told };
      text = refl;
      left = left;
    }

-- ---- what is read

read_whole : (most : ℕ) (source : Change SourceShown) (bytes : List ℕ) → IsReadPast most source bytes → length bytes ≤ most
    → bytes ≡ source.before.left
read_whole most source bytes h short =
    sym (append-nil bytes) ∙ (ap (λ l. bytes ++ l) (sym (h.ended short)) ∙ sym h.moved.front)

all_read : (most : ℕ) (source : Change SourceShown) (bytes : List ℕ) → IsReadPast most source bytes → length source.before.left ≤ most
    → bytes ≡ source.before.left
all_read most source bytes h short =
    read_whole most source bytes h (let long = ap length h.moved.front ∙ length-append bytes source.now.left in omega arith)

inputs_read : (sources : List (Change SourceShown)) (read : List (List ℕ)) → EachWith (IsReadPast 67108864) sources read
    → Each (λ input. is_over input ≡ false) (map (λ (s : Change SourceShown). s.before.left) sources)
    → read ≡ map (λ (s : Change SourceShown). s.before.left) sources
inputs_read sources read h within = with_fold (IsReadPast 67108864)
    (λ sources read. Each (λ input. is_over input ≡ false) (map (λ (s : Change SourceShown). s.before.left) sources)
    → read ≡ map (λ (s : Change SourceShown). s.before.left) sources)
    (λ within. refl) (λ s b sources read one _ rest within. (λ i. all_read 67108864 s b one (bytes_within s.before.left within.0) i ∷ rest within.1 i))
    sources read h within

-- the bytes of the state that is judged, if one is
abbrev bytes_in : Option (Change SourceShown) → Option (List ℕ)
bytes_in None = None
bytes_in (Some source) = Some source.before.left

next_read : (next : Option (Change SourceShown)) (read : Option (List ℕ)) → IsNextRead next read
    → IfSome next (λ source. length source.before.left ≤ 134217728) → read ≡ bytes_in next
next_read None None h short = refl
next_read (Some source) (Some bytes) h short = ap Some (all_read 134217728 source bytes h short)
next_read _ _ h short = absurd h

each_in : {A : Type 0} (P : A → Type 0) (xs : List A) (x : A) → Each P xs → Contains xs x → P x
each_in P xs x h c = subst P c.2 (each_at P xs c.0 x c.1 h)

-- ---- the law

module _ (c : collector.Run) (a : audit.Run) (given : IsAudited c a) where
  headline : collector.Headline c
  headline = given.collected.headline (subst (λ s. IsTrue (was_heard s)) (sym given.done) refl) given.audit_of.sources_tell

  abbrev inputs : List (List ℕ)
  inputs = map bytes_heard c.receivers

  heard_all : EachWith HeardOut inputs headline.heard.receivers
  heard_all =
      heard_each _ c.receivers headline.heard.receivers (subst (collector.IsCausedBy c) given.done given.collected.status_caused)
      headline.receivers

  abbrev r : Known
  r = headline.heard.known

  known : state_of c.beginning.before.left ≡ Ok r
  known = form_known c.form c.beginning.before.left r headline.known_is

  within : Each (λ input. is_over input ≡ false) inputs
  within = all_within inputs headline.heard.receivers heard_all

  session : IsSession r.own r.starts (map told_in inputs) headline.heard.world
  session =
      subst (λ all. IsSession r.own r.starts all headline.heard.world) (all_told inputs headline.heard.receivers heard_all) headline.session

  few : length inputs ≤ 16
  few = let same = length-map c.receivers bytes_heard in let most = given.audit_of.few in omega arith

  abbrev slots : List SlotView
  slots = headline.heard.world.slots

  -- what `continue` wrote is what its session leaves
  left_by : (source : Change SourceShown) → IsNextOf c source → IsLeftBy r.own slots source.before.left
  left_by source h = record {
    text_is = h.same_next
        ∙ each_in (collector.IsWhole headline.heard) c.outputs (record { number = 1; text = next_of forms.State; sink = h.next })
        (headline.whole given.audit_of.sinks_tell given.done) h.is_output;
    read_back = subst (λ (f : Form). known_of f (next_of f headline.heard) ≡ Ok (left_known f r.own slots)) h.continues
        (headline.left h.sends);
  }

  left_is : (next : Option (Change SourceShown)) → IfSome next (IsNextOf c) → IfSome (bytes_in next) (IsLeftBy r.own slots)
  left_is None h = tt
  left_is (Some source) h = left_by source h

  next_short : (next : Option (Change SourceShown)) → IfSome next (IsNextOf c)
      → IfSome next (λ source. length source.before.left ≤ 134217728)
  next_short None h = tt
  next_short (Some source) h =
      let left = left_by source h in
      is_short source.before.left (left_state r.own slots) (ap state_of left.text_is ∙ left.read_back)

  left : IfSome (bytes_in a.next) (IsLeftBy r.own slots)
  left = left_is a.next given.audit_of.same_next

  abbrev faithful_text : List ℕ
  faithful_text = text c.beginning.before.left inputs r headline.heard.world known within few session (bytes_in a.next) left

  text_is : report_of headline.heard ≡ faithful_text
  text_is =
      ap (λ e. report_text e headline.heard.world.slots headline.heard.world.strangers)
      (all_ends (addresses headline.heard.known) inputs headline.heard.receivers heard_all)

  -- the report was written whole
  written : given.audit_of.report.now.written ≡ report_of headline.heard
  written =
      each_in (collector.IsWhole headline.heard) c.outputs (report_output given.audit_of.report)
      (headline.whole given.audit_of.sinks_tell given.done) given.audit_of.is_output

  abbrev audited_bytes : Audited
  audited_bytes = audited c.beginning.before.left inputs r headline.heard.world known within few session (bytes_in a.next) left

  is_faithful : IsFaithful audited_bytes
  is_faithful =
      faithful c.beginning.before.left inputs r headline.heard.world known within few session (bytes_in a.next) left
      (ap orders (sym text_is) ∙ headline.told)

  -- what the audit read is this
  read_is : (verdict : Verdict) (h : HasVerdict a verdict) → h.read ≡ audited_bytes
  read_is verdict h =
      let g = given.audit_of in
      let state =
      all_read 134217728 a.state h.read.state h.state (is_short a.state.before.left r (ap state_of g.same_beginning ∙ known))
      ∙ g.same_beginning in
      let report = read_whole 1073741824 a.report h.read.report h.report h.short ∙ (g.same_report ∙ (written ∙ text_is)) in
      let lines =
      inputs_read a.inputs h.read.inputs h.inputs (subst (Each (λ input. is_over input ≡ false)) (sym g.same_lines) within)
      ∙ g.same_lines in
      let next = next_read a.next h.read.next h.next (next_short a.next g.same_next) in
      λ i. record { state = state i; next = next i; report = report i; inputs = lines i }

  no_other : (cause : Cause) → HasVerdict a (No cause) → ⊥
  no_other cause h =
      absurd (let other : Yes ≡ No cause = one_verdict audited_bytes Yes (No cause) is_faithful
      (subst (λ read. IsVerdict read (No cause)) (read_is (No cause) h) h.verdict_is) in cc)

  pub never_no : (cause : Cause) → a.status ≡ answers.No cause → ⊥
  never_no cause is =
      no_other cause ((subst (audit.IsCausedBy a) is given.audited.caused).answer given.audit_of.audited_tell)

  pub yes_or_memory : audit.IsFaultless a → (a.status ≡ answers.Yes) ⊎ (a.status ≡ answers.Memory)
  yes_or_memory faultless = at a.status refl (given.audited.complete given.audit_of.audited_tell faultless)
    where
      at : (s : AuditStatus) → a.status ≡ s → audit.IsDone s → (a.status ≡ answers.Yes) ⊎ (a.status ≡ answers.Memory)
      at answers.Yes is done = inl is
      at (answers.No cause) is done = absurd (never_no cause is)
      at answers.Memory is done = inr is
      at _ is done = absurd done
