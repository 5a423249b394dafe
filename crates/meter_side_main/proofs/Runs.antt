-- What is promised of a run.
use Rattle.std.proofs.Common.{◌≡◌, ℕ, ◌⊎◌, Bool, true, false, List, [], ◌∷◌, ◌++◌, length, Some, None, is_some, Result, Ok, Err, is_err, OnOk, OnErr, IsTrue, refl, sym, ap, ap₂, ◌∙◌, subst, inl, inr, append-nil}
use Rattle.aes_block.specs.Block.{IsBlock}
use Rattle.line_reader.specs.Lines.{is_over}
use Rattle.meter_address.specs.declared.address.Address.{Address}
use Rattle.meter_address.specs.Commission.{Commissioned}
use Rattle.outer_io.specs.Bytes.{AppendsFront}
use Rattle.outer_io.specs.Shown.{Change, SourceShown, SinkShown, ReadFailed, WriteFailed, LosesNothing, IsReadOut, IsSilent, HasText}
use Rattle.paper.specs.Filing.{Filed}
use Rattle.paper.proofs.Filings.{Finished}
use Rattle.state_file.specs.Whole.{Known, state_of}
use Rattle.state_file.specs.declared.fault.StateFault.{StateFault}
use Rattle.state_file.specs.declared.fault.StateFault.TheVariants as faults
use Rattle.meter_side_main.specs.declared.lines.Answer.{Answer}
use Rattle.meter_side_main.specs.declared.session.DeliveriesEnd.{DeliveriesEnd}
use Rattle.meter_side_main.specs.declared.session.DeliveriesEnd.TheVariants.{End, Cut, Fault}
use Rattle.meter_side_main.specs.declared.status.SideStatus.{SideStatus}
use Rattle.meter_side_main.specs.declared.status.SideStatus.TheVariants as statuses
use Rattle.meter_side_main.specs.declared.top.Meter.{Meter}
use Rattle.meter_side_main.specs.Genuine.{AreExecuted}
use Rattle.meter_side_main.specs.Answers.{AreAnswers, answers_to, deliveries_in, executed_among, side_text}
use Rattle.meter_side_main.specs.Session.{EndsSo}
use Rattle.meter_side_main.specs.Statuses.{was_heard, status_at, status_of}
use Rattle.meter_side_main.specs.Run.{Run, address_in, meter_with, Names, IsStatusOf, Hears, Headline, IsUncommissioned, IsTooLong, IsCut, IsCausedBy, IsFaultless, IsUnlessUnread, IsRun}
use Rattle.meter_side_main.specs.Refused.{IsNamed, IsRefused, IsHeardFor}
use Rattle.meter_side_main.proofs.Answering.{are_answers, answers_execute}

-- ---- words

-- there are three where they name an address
pub three_words : (words : List (List ℕ)) → is_some (address_in words) ≡ true → length words ≡ 3
unfolding address_in
three_words (a ∷ b ∷ c ∷ []) h = refl
three_words _ h = absurd cc

-- ---- what hearing came to

status_is : (ended : DeliveriesEnd) (failed : Bool) → IsStatusOf ended (status_at ended failed)
status_is End false = inl refl
status_is End true = inr refl
status_is _ failed = refl

done_is_written : (ended : DeliveriesEnd) (failed : Bool) → status_at ended failed ≡ statuses.Done → failed ≡ false
done_is_written End false e = refl
done_is_written _ _ e = absurd cc

-- the sink of a paper
abbrev sink_of : Filed → SinkShown
sink_of p = record { written = p.written; faults = p.faults }

-- the paper over the output, which was empty, was finished, and a write failed or none did
module _ (own : Address) (c : Commissioned) (tx : Change SourceShown) (tells : Bool) (a b : Filed) (ended : DeliveriesEnd)
    (lines : List (List ℕ)) (answers : List Answer) (key : IsBlock c.key) (ends : EndsSo ended tx.now.taken tx.now.left lines)
    (answered : answers ≡ answers_to own c c.down lines) (empty : IsTrue tells → a.written ≡ [])
    (d : Finished tells a (side_text c answers) b) where
  whole : b.failed ≡ false → IsTrue tells → b.written ≡ side_text c answers
  whole fine t = d.ok fine t ∙ ap (λ (o : List ℕ). o ++ side_text c answers) (empty t)

  text_is : (failed : Bool) → b.failed ≡ failed → IsTrue tells
      → HasText (side_text c answers) (record { before = sink_of a; now = sink_of b })
  text_is false is t = inl (whole is t)
  text_is true is t = inr (d.cause is, subst (λ (o : List ℕ). AppendsFront (side_text c answers) o b.written) (empty t) (d.err is t))

  pub hears_by : (failed : Bool) → b.failed ≡ failed
      → Hears own c tx tells (record { before = sink_of a; now = sink_of b }) (status_at ended failed)
  hears_by failed is = record {
    ended = ended;
    lines = lines;
    answers = answers;
    status_is = status_is ended failed;
    ends = ends;
    answered = subst (λ (xs : List Answer). AreAnswers own c c.down lines xs) (sym answered) (are_answers own c key c.down lines);
    executed = subst (λ (xs : List Answer). AreExecuted own c (c.down ∷ []) (deliveries_in lines) (executed_among xs)) (sym answered)
        (answers_execute own c key lines);
    told = text_is failed is;
    whole = λ t done. whole (is ∙ done_is_written ended failed done) t;
  }

-- the bytes that a fresh source had
all_bytes : (tx : Change SourceShown) → tx.before.taken ≡ [] → LosesNothing tx → tx.now.taken ++ tx.now.left ≡ tx.before.left
all_bytes tx fresh kept = kept ∙ ap (λ (x : List ℕ). x ++ tx.before.left) fresh

read_out : (tx : Change SourceShown) → LosesNothing tx → tx.now.left ≡ [] → IsReadOut tx
read_out tx kept none =
    record { took_all = sym (append-nil tx.now.taken) ∙ ap (λ (x : List ℕ). tx.now.taken ++ x) (sym none) ∙ kept; nothing_left = none }

module _ (tells : Bool) (tx : Change SourceShown) (out : Change SinkShown) (lines : List (List ℕ)) (fresh : IsTrue tells
    → tx.before.taken ≡ []) (kept : IsTrue tells → LosesNothing tx) where
  over_before : EndsSo Cut tx.now.taken tx.now.left lines → IsTrue tells → is_over tx.before.left ≡ true
  over_before ends t = ap is_over (sym (all_bytes tx (fresh t) (kept t))) ∙ ends.source_over

  pub heard_for : (ended : DeliveriesEnd) (failed : Bool) → (IsTrue tells → EndsSo ended tx.now.taken tx.now.left lines)
      → (ended ≡ Fault → ReadFailed tx) → (failed ≡ true → WriteFailed out)
      → IsHeardFor tells tx out (status_at ended failed)
  heard_for End false ends broken unwritten =
      record { heard = refl; cause = λ words sink beginning t. read_out tx (kept t) (ends t).nothing_left }
  heard_for End true ends broken unwritten = record { heard = refl; cause = λ words sink beginning. unwritten refl }
  heard_for Cut failed ends broken unwritten = record { heard = refl; cause = λ words sink beginning t. over_before (ends t) t }
  heard_for Fault failed ends broken unwritten = record { heard = refl; cause = λ words sink beginning. broken refl }

-- a call failed or didn't
pub failed_is : {E : Type 0} (r : Result (Unit {0}) E) (failed unwritten : Bool) → OnOk r (failed ≡ false) → OnErr r (failed ≡ true)
    → unwritten ≡ is_err r → failed ≡ unwritten
failed_is (Ok done) failed unwritten ok err is = ok ∙ sym is
failed_is (Err e) failed unwritten ok err is = err ∙ sym is

pub headline_is : (run : Run) (meter : Meter) → IsNamed run.words run.beginning meter
    → Hears meter.own meter.commission run.tx run.sinks_tell run.out run.status → Headline run
headline_is run meter n h = record {
  address = n.address;
  known = n.known;
  meter = meter.commission;
  names = record { named = n.named; known_is = n.known_is };
  commissioned = n.commissioned;
  begun = n.read;
  hears = subst (λ (own : Address). Hears own meter.commission run.tx run.sinks_tell run.out run.status) n.own_is h;
}

-- ---- causes

pub refusal_cause : (run : Run) (status : SideStatus) → IsRefused run.words run.sources_tell run.beginning status
    → (was_heard status ≡ false) × IsCausedBy run status
refusal_cause run statuses.Words h = (refl, h)
refusal_cause run statuses.ReadRoster h = (refl, h)
refusal_cause run (statuses.Roster line cause) h = (refl, h)
refusal_cause run (statuses.State line cause) h = (refl, h)
refusal_cause run statuses.Uncommissioned h = (
  refl,
  λ t. let m = h t in
      record {
        address = m.address;
        known = m.known;
        names = record { named = m.named; known_is = m.known_is };
        missing = m.missing;
      },
)
refusal_cause run statuses.Memory h = (refl, tt)
refusal_cause run _ h = absurd h

-- what a status says of the words and of the state, where contracts know the bytes of the sources
data Came (run : Run) (s : SideStatus) : Type 0 where
  Wordless : address_in run.words ≡ None → Came run s
  Faulty : (fault : StateFault) → state_of run.beginning.before.left ≡ Err fault → s ≡ status_of fault → Came run s
  Missing : IsUncommissioned run → s ≡ statuses.Uncommissioned → Came run s
  Unread : ReadFailed run.beginning → s ≡ statuses.ReadRoster → Came run s
  NoMemory : s ≡ statuses.Memory → Came run s
  Heard : Headline run → Came run s

-- ---- all of it

-- the words and the state name one meter, which is there or isn't
one_meter : (run : Run) (a b : Address) (x y : Known) (m : Commissioned) → Names run a x → Names run b y → meter_with a x.starts ≡ Some m
    → meter_with b y.starts ≡ None → ⊥
one_meter run a b x y m n o found missing =
    let named : Some a ≡ Some b = sym n.named ∙ o.named in
    let known : Ok x ≡ state_of run.beginning.before.left = sym n.known_is in
    let other : state_of run.beginning.before.left ≡ Ok y = o.known_is in
    let address : a ≡ b = cc in
    let same : x ≡ y = cc in
    absurd (let none = ap₂ (λ (k : Address) (e : Known). meter_with k e.starts) address same ∙ missing in cc)

module _ (run : Run) (headline : IsTrue (was_heard run.status) → IsTrue run.sources_tell → Headline run) (cause : IsCausedBy run run.status)
    (tells : IsTrue run.sources_tell) where
  came : (s : SideStatus) → run.status ≡ s → IsCausedBy run s → Came run s
  came statuses.Words is c = Wordless c
  came statuses.ReadRoster is c = Unread c refl
  came (statuses.Roster line k) is c = Faulty (faults.Roster line k) (c tells) refl
  came (statuses.State line k) is c = Faulty (faults.Line line k) (c tells) refl
  came statuses.Uncommissioned is c = Missing (c tells) refl
  came statuses.Memory is c = NoMemory refl
  came _ is c = Heard (headline (ap was_heard is) tells)

  beginning_by : (a : Address) (fault : StateFault) → address_in run.words ≡ Some a → state_of run.beginning.before.left ≡ Err fault
      → Came run run.status → IsUnlessUnread (status_of fault) run.status
  beginning_by a fault named bad (Wordless none) = cc (named, none)
  beginning_by a fault named bad (Faulty other is same) =
      let first : other ≡ fault = cc (is, bad) in inl (same ∙ ap status_of first)
  beginning_by a fault named bad (Missing u is) = cc (u.names.known_is, bad)
  beginning_by a fault named bad (Unread read is) = inr (inl is)
  beginning_by a fault named bad (NoMemory is) = inr (inr is)
  beginning_by a fault named bad (Heard h) = cc (h.names.known_is, bad)

  meter_by : IsUncommissioned run → Came run run.status → IsUnlessUnread statuses.Uncommissioned run.status
  meter_by u (Wordless none) = cc (u.names.named, none)
  meter_by u (Faulty fault bad is) = cc (u.names.known_is, bad)
  meter_by u (Missing v is) = inl is
  meter_by u (Unread read is) = inr (inl is)
  meter_by u (NoMemory is) = inr (inr is)
  meter_by u (Heard h) = absurd (one_meter run h.address u.address h.known u.known h.meter h.names u.names h.commissioned u.missing)

  done_by : IsFaultless run → (ended : DeliveriesEnd) → IsStatusOf ended run.status → (run.status ≡ statuses.Done) ⊎ (run.status ≡ statuses.Memory)
  done_by f End (inl done) = inl done
  done_by f End (inr wrote) = absurd (f.out_steady (subst (λ (s : SideStatus). IsCausedBy run s) wrote cause))
  done_by f Cut is =
      let over : is_over run.tx.before.left ≡ true = subst (λ (s : SideStatus). IsCausedBy run s) is cause tells in
      let within = f.within in
      absurd cc
  done_by f Fault is = absurd (f.tx_steady (subst (λ (s : SideStatus). IsCausedBy run s) is cause))

  complete_by : IsFaultless run → Came run run.status → (run.status ≡ statuses.Done) ⊎ (run.status ≡ statuses.Memory)
  complete_by f (Wordless none) = cc (f.names.named, none)
  complete_by f (Faulty fault bad is) = cc (f.names.known_is, bad)
  complete_by f (Missing u is) =
      absurd (one_meter run f.address u.address f.known u.known f.meter f.names u.names f.commissioned u.missing)
  complete_by f (Unread read is) = absurd (f.beginning_steady read)
  complete_by f (NoMemory is) = inr is
  complete_by f (Heard h) = done_by f h.hears.ended h.hears.status_is

  -- what was heard to its end is within the limits
  cut_heard : run.tx.before.taken ≡ [] → LosesNothing run.tx → is_over run.tx.before.left ≡ true → (ended : DeliveriesEnd) (lines : List (List ℕ))
      → EndsSo ended run.tx.now.taken run.tx.now.left lines → IsStatusOf ended run.status → IsCut run.status
  cut_heard fresh kept over End lines ends is =
      let read = read_out run.tx kept ends.nothing_left in
      let within : is_over run.tx.before.left ≡ false =
      ap is_over (sym (read.took_all ∙ ap (λ (x : List ℕ). x ++ run.tx.before.left) fresh)) ∙ ends.within in
      absurd cc
  cut_heard fresh kept over Cut lines ends is = inl is
  cut_heard fresh kept over Fault lines ends is = inr (inl is)

  cut_by : run.tx.before.taken ≡ [] → LosesNothing run.tx → IsTooLong run → Came run run.status → IsCut run.status
  cut_by fresh kept l (Wordless none) = cc (l.names.named, none)
  cut_by fresh kept l (Faulty fault bad is) = cc (l.names.known_is, bad)
  cut_by fresh kept l (Missing u is) =
      absurd (one_meter run l.address u.address l.known u.known l.meter l.names u.names l.commissioned u.missing)
  cut_by fresh kept l (Unread read is) = inr (inr (inl is))
  cut_by fresh kept l (NoMemory is) = inr (inr (inr is))
  cut_by fresh kept l (Heard h) = cut_heard fresh kept l.over h.hears.ended h.hears.lines h.hears.ends h.hears.status_is

pub run_is : (run : Run) → (IsTrue (was_heard run.status) → IsTrue run.sources_tell → Headline run) → IsCausedBy run run.status
    → (address_in run.words ≡ None → run.status ≡ statuses.Words)
    → (IsTrue run.sources_tell → run.tx.before.taken ≡ []) → (IsTrue run.sources_tell → LosesNothing run.beginning)
    → (IsTrue run.sources_tell → LosesNothing run.tx) → (was_heard run.status ≡ false → run.tx.now ≡ run.tx.before)
    → (was_heard run.status ≡ false → IsSilent run.out) → IsRun run
run_is run headline cause words fresh beginning tx unread silent =
    let how : IsTrue run.sources_tell → Came run run.status = λ t. came run headline cause t run.status refl cause in
    record {
      headline = headline;
      status_caused = cause;
      words_refused = words;
      beginning_refused = λ t a fault named bad. beginning_by run headline cause t a fault named bad (how t);
      meter_refused = λ t u. meter_by run headline cause t u (how t);
      too_long_cut = λ t long. cut_by run headline cause t (fresh t) (tx t) long (how t);
      complete = λ t f. complete_by run headline cause t f (how t);
      beginning_kept = beginning;
      tx_kept = tx;
      unread = unread;
      silent = silent;
    }
