use Rattle.std.proofs.Common.{◌≡◌, ◌∙◌, Bool, true, false, List, [], ◌∷◌, Result, Ok, Err, refl, sym, ap, subst, length, map, slice_index_or, slice_set, IsTrue, IsOk, IfOk, arith}
use Rattle.lists.specs.Each.{Each}
use Rattle.outer_io.specs.Shown.{Change, SourceShown}
use Rattle.outer_io.specs.declared.sinks.Sink as sinks
use Rattle.outer_io.specs.declared.sources.Source as sources
use Rattle.receivers.specs.Receiver.{Receiving}
use Rattle.receivers.specs.Run.{ReceiverRun, receiver_run, receiver_runs}
use Rattle.wmbus_words.specs.declared.asked.Plan.{Plan}
use Rattle.wmbus_words.specs.declared.asked.WordsFault.{WordsFault}
use Rattle.collector_main.specs.declared.form.Form.{Form}
use Rattle.collector_main.specs.declared.status.Status.{Status}
use Rattle.collector_main.specs.declared.status.Status.TheVariants as statuses
use Rattle.collector_main.specs.MadeRun.{MadeRun, IsMadeRun, IsMadeCause}
use Rattle.collector_main.specs.Run.{Run, Output, IsRun, IsCausedBy}
use Rattle.receivers.specs.Receiver.{IsFresh}
use Rattle.collector_main.specs.Showing.{collects, asks_for_readings}
use Rattle.collector_main.proofs.top.run.Goals as goal

-- what is said of the words' plan, where they ask for this one
of_plan : (Q : Plan → Type 0) (plan : Plan) (r : Result Plan WordsFault) → Ok plan ≡ r → Q plan → IfOk r Q
of_plan Q plan r e h = subst (λ r. IfOk r Q) e h

-- what is required of a plan, where the words ask for this one
planned : (Q : Plan → Type 0) (plan : Plan) (r : Result Plan WordsFault) → Ok plan ≡ r → IfOk r Q → Q plan
planned Q plan r e h = subst (λ r. IfOk r Q) (sym e) h

is_ok : (plan : Plan) (r : Result Plan WordsFault) → Ok plan ≡ r → IsOk r
is_ok plan r e = subst (λ (r : Result Plan WordsFault). IsOk r) e refl

isnt_false : (b : Bool) → true ≡ b → b ≡ false → ⊥
isnt_false b one other = absurd cc

-- status 2 comes of no run
no_words : (run : Run) (fault : WordsFault) → IsRun run → run.status ≡ statuses.Words fault → ⊥
no_words run fault is same = subst (IsCausedBy run) same is.status_caused

no_words_made : (run : MadeRun) (fault : WordsFault) → IsMadeRun run → run.status ≡ statuses.Words fault → ⊥
no_words_made run fault is same = subst (IsMadeCause run) same is.status_caused

same_fault : (one other : WordsFault) (r : Result Plan WordsFault) → Err one ≡ r → statuses.Words one ≡ statuses.Words other → r ≡ Err other
same_fault one other r e same = cc

-- the one receiver of `hear`, among the receivers of the call
one_of : (A : Type 0) (xs : List A) (a : A) → length xs ≡ 1 → a ≡ slice_index_or xs 0 a → xs ≡ a ∷ []
one_of A [] a one is = absurd cc
one_of A (x ∷ []) a one is = ap (λ y. y ∷ []) (sym is)
one_of A (x ∷ y ∷ xs) a one is = absurd cc

set_back : (A : Type 0) (xs : List A) (a new : A) → xs ≡ a ∷ [] → new ≡ a → slice_set xs 0 new ≡ xs
set_back A xs a new is same = subst (λ xs. slice_set xs 0 new ≡ xs) (sym is) (ap (λ x. x ∷ []) same)

same_of : (A B : Type 0) (f : A → B) (xs : List A) (a new : A) → xs ≡ a ∷ [] → f new ≡ f a → map f (slice_set xs 0 new) ≡ map f xs
same_of A B f xs a new is same = subst (λ xs. map f (slice_set xs 0 new) ≡ map f xs) (sym is) (ap (λ x. x ∷ []) same)

one_run : {S K : Type 0} (s : sources.Ghosts S) (k : sinks.Ghosts K) (xs : List (Receiving S K)) (a new : Receiving S K) → xs ≡ a ∷ []
    → receiver_run s k a new ∷ [] ≡ receiver_runs s k xs (slice_set xs 0 new)
one_run s k xs a new is = subst (λ xs. receiver_run s k a new ∷ [] ≡ receiver_runs s k xs (slice_set xs 0 new)) (sym is) refl

of_receivers : (tells told : Bool) (form : Form) (beginning : Change SourceShown) (one other : List ReceiverRun) (sends : Bool)
    (outputs : List Output) (status : Status) → one ≡ other
    → IsRun (record {
      sources_tell = tells;
      sinks_tell = told;
      form = form;
      beginning = beginning;
      receivers = one;
      sends = sends;
      outputs = outputs;
      status = status;
    })
    → IsRun (record {
      sources_tell = tells;
      sinks_tell = told;
      form = form;
      beginning = beginning;
      receivers = other;
      sends = sends;
      outputs = outputs;
      status = status;
    })
of_receivers tells told form beginning one other sends outputs status same is =
    subst (λ (rs : List ReceiverRun). IsRun (record {
      sources_tell = tells;
      sinks_tell = told;
      form = form;
      beginning = beginning;
      receivers = rs;
      sends = sends;
      outputs = outputs;
      status = status;
    })) same is

pub index_mut-receiver-requires : goal.index_mut-receiver-requires
index_mut-receiver-requires g c =
    let e = sym (c.in-Ok-Hear.is ∙ ap Ok c.in-Ok-Hear.field-0-is) ∙ c.words.ensures.exact in
    let one = planned _ _ _ e c.requires.count in
    omega (arith, one)

pub hear_session-requires-clause-fresh : goal.hear_session-requires-clause-fresh
hear_session-requires-clause-fresh g c =
    let e = sym (c.in-Ok-Hear.is ∙ ap Ok c.in-Ok-Hear.field-0-is) ∙ c.words.ensures.exact in
    let one = one_of _ c.args.receivers.now.items c.index_mut-receiver.result.now
    (sym c.args.receivers.now.ok.0 ∙ planned _ _ _ e c.requires.count) c.index_mut-receiver.ensures.value in
    (subst (Each IsFresh) one (c.requires.fresh (is_ok _ _ e))).0

pub hear_session-requires-clause-empty : goal.hear_session-requires-clause-empty
hear_session-requires-clause-empty g c = c.requires.empty

pub returns-in-Err-clause-only_words : goal.returns-in-Err-clause-only_words
returns-in-Err-clause-only_words g c =
    let e = sym c.in-Err.is ∙ c.words.ensures.exact in
    λ fault same. same_fault c.in-Err.fault fault _ e same

pub returns-in-Ok-Hear-clause-only_words : goal.returns-in-Ok-Hear-clause-only_words
returns-in-Ok-Hear-clause-only_words g c =
    λ fault same. absurd (no_words _ fault c.hear_session.ensures.run same)

pub returns-in-Ok-Hear-clause-run : goal.returns-in-Ok-Hear-clause-run
returns-in-Ok-Hear-clause-run g c =
    let e = sym (c.in-Ok-Hear.is ∙ ap Ok c.in-Ok-Hear.field-0-is) ∙ c.words.ensures.exact in
    let one = one_of _ c.args.receivers.now.items c.index_mut-receiver.result.now
    (sym c.args.receivers.now.ok.0 ∙ planned _ _ _ e c.requires.count) c.index_mut-receiver.ensures.value in
    of_plan _ _ _ e (λ _. of_receivers _ _ _ _ _ _ _ _ _ (one_run g.S.Source g.K.Sink _ _ _ one) c.hear_session.ensures.run)

pub returns-in-Ok-Hear-clause-unread : goal.returns-in-Ok-Hear-clause-unread
returns-in-Ok-Hear-clause-unread g c =
    let e = sym (c.in-Ok-Hear.is ∙ ap Ok c.in-Ok-Hear.field-0-is) ∙ c.words.ensures.exact in
    let one = one_of _ c.args.receivers.now.items c.index_mut-receiver.result.now
    (sym c.args.receivers.now.ok.0 ∙ planned _ _ _ e c.requires.count) c.index_mut-receiver.ensures.value in
    λ unread. set_back _ _ _ _ one (c.hear_session.ensures.unread unread)

pub returns-in-Ok-Hear-clause-tx : goal.returns-in-Ok-Hear-clause-tx
returns-in-Ok-Hear-clause-tx g c =
    let e = sym (c.in-Ok-Hear.is ∙ ap Ok c.in-Ok-Hear.field-0-is) ∙ c.words.ensures.exact in
    let one = one_of _ c.args.receivers.now.items c.index_mut-receiver.result.now
    (sym c.args.receivers.now.ok.0 ∙ planned _ _ _ e c.requires.count) c.index_mut-receiver.ensures.value in
    λ _. same_of _ _ (λ r. r.tx) _ _ _ one c.hear_session.ensures.tx

pub returns-in-Ok-Collect-clause-only_words : goal.returns-in-Ok-Collect-clause-only_words
returns-in-Ok-Collect-clause-only_words g c =
    λ fault same. absurd (no_words _ fault c.collect_session.ensures.run same)

pub returns-in-Ok-Collect-clause-run : goal.returns-in-Ok-Collect-clause-run
returns-in-Ok-Collect-clause-run g c =
    let e = sym (c.in-Ok-Collect.is ∙ ap Ok c.in-Ok-Collect.field-0-is) ∙ c.words.ensures.exact in
    of_plan _ _ _ e (λ _. c.collect_session.ensures.run)

pub returns-in-Ok-Collect-clause-receivers : goal.returns-in-Ok-Collect-clause-receivers
returns-in-Ok-Collect-clause-receivers g c =
    let e = sym (c.in-Ok-Collect.is ∙ ap Ok c.in-Ok-Collect.field-0-is) ∙ c.words.ensures.exact in
    λ h. c.collect_session.ensures.receivers (h (subst (λ (r : Result Plan WordsFault). IsTrue (collects r)) e refl))

pub returns-in-Ok-Collect-clause-tx : goal.returns-in-Ok-Collect-clause-tx
returns-in-Ok-Collect-clause-tx g c =
    let e = sym (c.in-Ok-Collect.is ∙ ap Ok c.in-Ok-Collect.field-0-is) ∙ c.words.ensures.exact in
    λ test. absurd (isnt_false _ (ap collects e) test)

pub returns-in-Ok-Collect-clause-next : goal.returns-in-Ok-Collect-clause-next
returns-in-Ok-Collect-clause-next g c =
    let e = sym (c.in-Ok-Collect.is ∙ ap Ok c.in-Ok-Collect.field-0-is) ∙ c.words.ensures.exact in
    λ test. absurd (isnt_false _ (ap collects e) test)

pub returns-in-Ok-Collect-clause-readings : goal.returns-in-Ok-Collect-clause-readings
returns-in-Ok-Collect-clause-readings g c =
    let e = sym (c.in-Ok-Collect.is ∙ ap Ok c.in-Ok-Collect.field-0-is) ∙ c.words.ensures.exact in
    λ test. absurd (isnt_false _ (ap asks_for_readings e) test)

pub returns-in-Ok-Continue-clause-only_words : goal.returns-in-Ok-Continue-clause-only_words
returns-in-Ok-Continue-clause-only_words g c =
    λ fault same. absurd (no_words _ fault c.collect_session-in-Ok-Continue.ensures.run same)

pub returns-in-Ok-Continue-clause-run : goal.returns-in-Ok-Continue-clause-run
returns-in-Ok-Continue-clause-run g c =
    let e = sym (c.in-Ok-Continue.is ∙ ap Ok c.in-Ok-Continue.field-0-is) ∙ c.words.ensures.exact in
    of_plan _ _ _ e (λ _. c.collect_session-in-Ok-Continue.ensures.run)

pub returns-in-Ok-Continue-clause-receivers : goal.returns-in-Ok-Continue-clause-receivers
returns-in-Ok-Continue-clause-receivers g c =
    let e = sym (c.in-Ok-Continue.is ∙ ap Ok c.in-Ok-Continue.field-0-is) ∙ c.words.ensures.exact in
    λ h. c.collect_session-in-Ok-Continue.ensures.receivers (h (subst (λ (r : Result Plan WordsFault). IsTrue (collects r)) e refl))

pub returns-in-Ok-Continue-clause-tx : goal.returns-in-Ok-Continue-clause-tx
returns-in-Ok-Continue-clause-tx g c =
    let e = sym (c.in-Ok-Continue.is ∙ ap Ok c.in-Ok-Continue.field-0-is) ∙ c.words.ensures.exact in
    λ test. absurd (isnt_false _ (ap collects e) test)

pub returns-in-Ok-Continue-clause-next : goal.returns-in-Ok-Continue-clause-next
returns-in-Ok-Continue-clause-next g c =
    let e = sym (c.in-Ok-Continue.is ∙ ap Ok c.in-Ok-Continue.field-0-is) ∙ c.words.ensures.exact in
    λ test. absurd (isnt_false _ (ap collects e) test)

pub returns-in-Ok-Continue-clause-readings : goal.returns-in-Ok-Continue-clause-readings
returns-in-Ok-Continue-clause-readings g c =
    let e = sym (c.in-Ok-Continue.is ∙ ap Ok c.in-Ok-Continue.field-0-is) ∙ c.words.ensures.exact in
    λ test. absurd (isnt_false _ (ap asks_for_readings e) test)

pub returns-in-Ok-Made-clause-made : goal.returns-in-Ok-Made-clause-made
returns-in-Ok-Made-clause-made g c =
    let e = sym (c.in-Ok-Made.is ∙ ap Ok c.in-Ok-Made.field-0-is) ∙ c.words.ensures.exact in
    of_plan _ _ _ e c.made_session.ensures

pub returns-in-Ok-Made-clause-readings : goal.returns-in-Ok-Made-clause-readings
returns-in-Ok-Made-clause-readings g c =
    let e = sym (c.in-Ok-Made.is ∙ ap Ok c.in-Ok-Made.field-0-is) ∙ c.words.ensures.exact in
    λ test. absurd (isnt_false _ (ap asks_for_readings e) test)

pub returns-in-Ok-Made-clause-only_words : goal.returns-in-Ok-Made-clause-only_words
returns-in-Ok-Made-clause-only_words g c =
    λ fault same. absurd (no_words_made _ fault c.made_session.ensures same)
