-- A made session is heard whole, and its run.
use Rattle.std.proofs.Common.{◌≡◌, ◌≢◌, ◌++◌, ◌≤◌, ℕ, List, [], ◌∷◌, false, Some, Result, Ok, Err, IfOk, ⊎_elim, refl, sym, ap, ap₂, subst, ◌∙◌, IsTrue, map, length, arith}
use Rattle.std.proofs.lemmas.List.{append-nil, length-map}
use Rattle.lists.specs.Each.{Each, EachWith}
use Rattle.lists.proofs.Members.{with_fold, with_length}
use Rattle.outer_io.specs.Faults.{Rose}
use Rattle.outer_io.specs.declared.sources.Source as sources
use Rattle.outer_io.specs.declared.sinks.Sink as sinks
use Rattle.line_reader.specs.Lines.{is_over, all_lines}
use Rattle.made_input.specs.Made.{Session, made}
use Rattle.made_input.specs.Laws.{IsReadable}
use Rattle.made_input.specs.Streams.{Text}
use Rattle.made_input.proofs.MadeRosters.{made_is_readable}
use Rattle.meter_address.specs.declared.address.Address.{Address}
use Rattle.meter_slots.specs.declared.counts.Ended.{Ended}
use Rattle.meter_slots.specs.declared.counts.Ended.TheVariants as ends
use Rattle.meter_slots.specs.World.{WorldView}
use Rattle.receivers.specs.Collected.{address_of}
use Rattle.receivers.specs.Ending.{IsEnding}
use Rattle.receivers.specs.HeardLines.{HeardLines, HasTaken, IsHeardSession, tellings}
use Rattle.receivers.specs.Receiver.{Receiving}
use Rattle.receivers.specs.Run.{ReceiverRun, receiver_run, receiver_runs}
use Rattle.receivers.proofs.HeardRuns.{heard_session}
use Rattle.report_text.specs.Report.{report_text}
use Rattle.state_file.specs.Whole.{Known}
use Rattle.collector_main.specs.declared.together.HeardTogether.{HeardTogether}
use Rattle.collector_main.specs.declared.form.Form.TheVariants.{Roster}
use Rattle.collector_main.specs.Begin.{known_of}
use Rattle.collector_main.specs.Heard.{Heard, receiver_end}
use Rattle.collector_main.specs.MadeRun.{heard_whole, heard_texts}
use Rattle.collector_main.specs.Ready.{HaveHeard, HearsText, IsMadeTogether}
use Rattle.receivers.specs.Receiver.{IsFresh}
use Rattle.collector_main.proofs.ManyReceivers.{IsEnd, all_found, each_known, each_short, ends_are, runs_known, runs_ended, runs_many}
use Rattle.collector_main.proofs.Runs.{whole_end}
use Rattle.collector_main.proofs.Orders.{order_is_told}

abbrev pub session_of : (roster first second third fourth : List ℕ) → Session
session_of roster first second third fourth = record { roster = roster; first = first; second = second; third = third; fourth = fourth }

-- ---- each receiver hears its whole text

module _ {S K : Type 0} (s : sources.Ghosts S) (k : sinks.Ghosts K) (reads : (x : S) → s.faults x ≡ 0) (writes : (x : K)
    → k.faults x ≡ 0) where
  -- before its run nothing was taken of the text, which is within the limits
  pub record IsOver (r : Receiving S K) (text : List ℕ) : Type 0 where
    pub untaken : s.taken r.source ≡ []
    pub left : s.left r.source ≡ text
    pub within : is_over text ≡ false

  no_rise : (a b : ℕ) → a ≡ 0 → b ≡ 0 → Rose a b → ⊥
  no_rise a b before now rose = ⊎_elim (λ less. omega arith) (λ last. omega arith) rose

  abbrev heard_as : List (List ℕ) → Ended → HeardLines
  heard_as lines ended = record { lines = lines; ended = ended }

  by_end : (old new : Receiving S K) (text : List ℕ) (how : Ended) (lines : List (List ℕ)) → IsOver old text
      → s.taken new.source ++ s.left new.source ≡ text → new.ended ≢ Some ends.Memory → new.ended ≡ Some how
      → IsEnding how (s.taken new.source) (s.left new.source) lines
      → (how ≡ ends.ReadFault → Rose (s.faults old.source) (s.faults new.source))
      → (how ≡ ends.TxFault → Rose (k.faults old.tx) (k.faults new.tx)) → heard_as lines how ≡ heard_whole text
  by_end old new text how lines over bytes found so ending read tx =
      let at_end : how ≡ ends.End =
      whole_end how _ _ text lines ending bytes over.within (λ is. found (so ∙ ap Some is))
      (λ is. no_rise _ _ (reads old.source) (reads new.source) (read is)) (λ is. no_rise _ _ (writes old.tx) (writes new.tx) (tx is)) in
      let whole = subst (λ e. IsEnding e (s.taken new.source) (s.left new.source) lines) at_end ending in
      let taken : s.taken new.source ≡ text = sym (append-nil (s.taken new.source))
      ∙ ap (λ t. s.taken new.source ++ t) (sym whole.nothing_left) ∙ bytes in
      λ i. heard_as ((whole.all ∙ ap all_lines taken) i) (at_end i)

  module _ (directory : List Address) where
    one_whole : (old new : Receiving S K) (text : List ℕ) (h : HeardLines) → IsOver old text → new.ended ≢ Some ends.Memory
        → HasTaken directory (receiver_run s k old new) h → h ≡ heard_whole text
    one_whole old new text h over found taken =
        by_end old new text h.ended h.lines over (taken.no_loss ∙ ap (λ t. t ++ s.left old.source) over.untaken ∙ over.left)
        found taken.ended taken.lines taken.read_fault taken.tx_fault

    all_whole : (olds news : List (Receiving S K)) (texts : List (List ℕ)) (hs : List HeardLines) → EachWith IsOver olds texts
        → length news ≡ length olds → Each (λ r. r.ended ≢ Some ends.Memory) (receiver_runs s k olds news)
        → EachWith (HasTaken directory) (receiver_runs s k olds news) hs → hs ≡ map heard_whole texts
    all_whole [] news [] [] over many found taken = refl
    all_whole [] news (t ∷ texts) hs over many found taken = absurd over
    all_whole (o ∷ olds) news [] hs over many found taken = absurd over
    all_whole (o ∷ olds) [] (t ∷ texts) hs over many found taken = absurd cc
    all_whole (o ∷ olds) (n ∷ news) (t ∷ texts) (h ∷ hs) over many found taken =
        ap₂ (λ x xs. x ∷ xs) (one_whole o n t h over.0 found.0 taken.0) (all_whole olds news texts hs over.1 (omega arith) found.1 taken.1)
    all_whole _ _ _ _ over many found taken = absurd taken

  -- ---- what they heard together

  pub made_together : (session : Session) (e : Known) (olds news : List (Receiving S K)) (h : HeardTogether) → IsTrue s.tells
      → known_of Roster session.roster ≡ Ok e
      → EachWith IsOver olds (heard_texts session) → HaveHeard s k e olds news h → IsMadeTogether session h
  made_together session e olds news h told is over have =
      let runs : List ReceiverRun = receiver_runs s k olds news in
      let world : WorldView = record { slots = h.collected.slots.items; strangers = h.collected.strangers } in
      let known = runs_known s k olds news in
      let t : IsHeardSession e.own e.starts runs world =
      heard_session e.own e.starts runs world (each_known s.tells runs known told) have.collected in
      let directory : List Address = map address_of e.starts in
      let ended : EachWith IsEnd runs h.ends.items = runs_ended s k olds news h.ends.items have.as_many have.receiver_ends in
      let heard : Heard = record { known = e; receivers = t.receivers; world = world } in
      let four : length (heard_texts session) ≡ length olds = with_length IsOver olds (heard_texts session) over in
      let many : length (map tellings t.receivers) ≡ length runs = length-map t.receivers tellings
      ∙ with_length (HasTaken directory) runs t.receivers t.taken in
      let all : length runs ≡ length olds = runs_many s k olds news have.as_many in
      record {
        heard = heard;
        is_heard = record {
          known_is = is;
          receivers = all_whole directory olds news (heard_texts session) t.receivers over have.as_many
              (all_found s.tells directory runs h.ends.items ended) t.taken;
          session = t.session;
          told = order_is_told e.own (map tellings t.receivers) (omega arith)
              (each_short s.tells directory runs h.ends.items t.receivers ended t.taken) e.starts world
              (map (receiver_end heard) t.receivers) t.session;
        };
        report = ap (λ l. report_text l world.slots world.strangers)
            (ends_are s.tells directory runs h.ends.items t.receivers ended t.taken);
      }

-- ---- four receivers over the texts of a made session

pub four_fresh : {K : Type 0} (rs : List (Receiving Text K)) (texts : List (List ℕ)) → EachWith HearsText rs texts → Each IsFresh rs
four_fresh = with_fold HearsText (λ rs texts. Each IsFresh rs) tt (λ r t rs texts hears each later. (hears.fresh, later))

module _ {K : Type 0} (s : sources.Ghosts Text) (k : sinks.Ghosts K) (told : IsTrue s.tells) (taken : (x : Text) → s.taken x ≡ x.taken)
    (left : (x : Text) → s.left x ≡ x.left) (reads : (x : Text) → s.faults x ≡ 0) (writes : (x : K) → k.faults x ≡ 0) where
  over_texts : (rs : List (Receiving Text K)) (texts : List (List ℕ)) → EachWith HearsText rs texts → Each (λ t. is_over t ≡ false) texts
      → EachWith (IsOver s k reads writes) rs texts
  over_texts = with_fold HearsText (λ rs texts. Each (λ t. is_over t ≡ false) texts → EachWith (IsOver s k reads writes) rs texts) (λ within. tt)
      (λ r t rs texts hears each later within. (
        record {
          untaken = taken r.source ∙ ap (λ (x : Text). x.taken) hears.source;
          left = left r.source ∙ ap (λ (x : Text). x.left) hears.source;
          within = within.0;
        },
        later within.1,
      ))

  -- what they heard together, where the session has these texts
  pub made_heard : {E : Type 0} (count telegrams number : ℕ) → count ≤ 1024 → telegrams ≤ 16384
      → (session : Session) (roster first second third fourth bytes : List ℕ)
      → session_of roster first second third fourth ≡ session → session ≡ made count telegrams number → bytes ≡ roster
      → (e : Known) → known_of Roster bytes ≡ Ok e → (olds news : List (Receiving Text K))
      → EachWith HearsText olds (first ∷ second ∷ third ∷ fourth ∷ [])
      → (result : Result HeardTogether E) → IfOk result (HaveHeard s k e olds news)
      → IfOk result (IsMadeTogether (made count telegrams number))
  made_heard count telegrams number few_meters few session roster first second third fourth bytes view same at e is olds news each (Err x)
      have = tt
  made_heard count telegrams number few_meters few session roster first second third fourth bytes view same at e is olds news each (Ok h)
      have =
      let whole : Session = made count telegrams number in
      let readable : IsReadable count telegrams number whole = made_is_readable count telegrams number few_meters few in
      let so : session_of roster first second third fourth ≡ whole = view ∙ same in
      let texts : EachWith HearsText olds (heard_texts whole) = subst (λ (x : Session). EachWith HearsText olds (heard_texts x)) so each in
      let roster_is : known_of Roster whole.roster ≡ Ok e = ap (known_of Roster) (sym (at ∙ ap (λ (x : Session). x.roster) so)) ∙ is in
      made_together s k reads writes whole e olds news h told roster_is
      (over_texts olds (heard_texts whole) texts
      (readable.first.within, (readable.second.within, (readable.third.within, (readable.fourth.within, tt))))) have
