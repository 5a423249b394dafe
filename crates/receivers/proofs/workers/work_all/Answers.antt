use Rattle.std.proofs.Common.{◌≡◌, ◌<◌, ℕ, List, length, slice_index_or, subst, sym, ap, ◌∙◌}
use Rattle.receivers.specs.Passes.{crew}
use Rattle.receivers.specs.Run.{receiver_run}
use Rattle.receivers.specs.Workers.{IsDone}
use Rattle.receivers.proofs.Collecting.{whole}
use Rattle.receivers.proofs.workers.work_all.Goals as goal

-- what holds of a value and of what came of it holds of the two at their place
at_place : {X : Type 0} (P : X → X → Type 0) (before xs ys after : List X) (i : ℕ) (d a b : X) → xs ≡ before → after ≡ ys
    → a ≡ slice_index_or xs i d → b ≡ slice_index_or ys i d → P a b → P (slice_index_or before i d) (slice_index_or after i d)
at_place {X} P before xs ys after i d a b first last a_is b_is h =
    subst (λ x. P x (slice_index_or after i d)) (a_is ∙ ap (λ (l : List X). slice_index_or l i d) first)
    (subst (P a) (b_is ∙ ap (λ (l : List X). slice_index_or l i d) (sym last)) h)

pub returns-clause-as_many : goal.returns-clause-as_many
returns-clause-as_many g c =
    let ok = c.args.workers.now.ok.0 in
    let many = c.for_each_mut.auto.s ∙ ap length c.as_mut_slice.ensures.value in
    ap length (whole c.args.workers.now.len c.for_each_mut.new.s c.args.workers.now.items (many ∙ sym ok) (sym ok)) ∙ many

pub returns-clause-each : goal.returns-clause-each
returns-clause-each g c = λ i d below.
    let ok = c.args.workers.now.ok.0 in
    let value = c.as_mut_slice.ensures.value in
    let many = c.for_each_mut.auto.s ∙ ap length value in
    let done = (c.for_each_mut.ensures i d (subst (λ l. i < length l) (sym value) below)).1 in
    at_place (λ w w'. IsDone c.args.cells.now c.args.strangers.now c.args.directory.now
    (receiver_run g.S.Source g.K.Sink w.receiver w'.receiver) (crew w.passes.items w.stranger_pass) (crew w'.passes.items w'.stranger_pass))
    c.args.workers.now.items _ _ _ i d _ _ value
    (whole c.args.workers.now.len c.for_each_mut.new.s c.args.workers.now.items (many ∙ sym ok) (sym ok))
    done.argument_is done.left done.call
