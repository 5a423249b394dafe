use Rattle.std.proofs.Common.{rules, arith, ◌≡◌, ◌+◌, ℕ, [], ◌∷◌, ◌++◌, map, length, subst, sym, ap, ◌∙◌, length-append, append-nil}
use Rattle.receivers.specs.Passes.{crew}
use Rattle.std.proofs.lemmas.List.{nil_from_length}
use Rattle.receivers.specs.Crews.{AreCrews, AreRoots}
use Rattle.receivers.proofs.Hirings.{hires_crews, hires_receivers, few_left}
use Rattle.receivers.proofs.Joinings.{one_less}
use Rattle.receivers.proofs.crews.hire.Goals as goal

pub loop-receiver-init : goal.loop-receiver-init
loop-receiver-init g c = rw c.new-workers.ensures.items (c.requires.roots, tt, sym (append-nil c.args.receivers.now.items))

pub overflow_cast-source : goal.overflow_cast-source
overflow_cast-source g c =
    (few_left c.args.receivers.now.items c.loop-receiver.receivers.items _ _ _ c.loop-receiver.invariant.2 c.args.receivers.now.ok.0
    c.requires.few (sym c.loop-receiver.receivers.ok.0 ∙ (sym c.in-Some.ensures.cases ∙ ap (λ (k : ℕ). k + 1) (sym c.len.ensures)))).0

pub overflow_add-source : goal.overflow_add-source
overflow_add-source g c =
    (few_left c.args.receivers.now.items c.loop-receiver.receivers.items _ _ _ c.loop-receiver.invariant.2 c.args.receivers.now.ok.0
    c.requires.few (sym c.loop-receiver.receivers.ok.0 ∙ (sym c.in-Some.ensures.cases ∙ ap (λ (k : ℕ). k + 1) (sym c.len.ensures)))).1

pub hire_one-requires-clause-roots : goal.hire_one-requires-clause-roots
hire_one-requires-clause-roots g c =
    let more : length c.loop-receiver.receivers.items ≡ c.len.result + 1 =
    sym c.loop-receiver.receivers.ok.0 ∙ (sym c.in-Some.ensures.cases ∙ ap (λ (k : ℕ). k + 1) (sym c.len.ensures)) in (
      length c.args.receivers.now.items,
      subst (λ (k : ℕ). AreRoots c.args.cells.now c.args.strangers.now k (length c.args.receivers.now.items) c.loop-receiver.roots
          c.loop-receiver.stranger_root) more c.loop-receiver.invariant.0,
    )

pub loop-receiver-smaller : goal.loop-receiver-smaller
loop-receiver-smaller g c =
    one_less (sym c.loop-receiver.receivers.ok.0 ∙ (sym c.in-Some.ensures.cases ∙ ap (λ (k : ℕ). k + 1) c.pop.new.self.ok.0))

pub loop-receiver-preserved : goal.loop-receiver-preserved
loop-receiver-preserved g c =
    let inv = c.loop-receiver.invariant in let left : ℕ = length c.pop.new.self.items in
    let one = ap length c.in-Some.ensures.items in let long = length-append c.pop.new.self.items (c.in-Some.receiver ∷ []) in
    let n : length c.loop-receiver.receivers.items ≡ left + 1 = omega arith in
    let all = ap length inv.2 in let parts =
    length-append c.loop-receiver.receivers.items (map (λ w. w.receiver) c.loop-receiver.workers.items) in
    let len = c.len.ensures in (
      c.in_ok-worker.ensures.roots left (length c.args.receivers.now.items) (search rules) (omega arith)
          (subst (λ (k : ℕ). AreRoots c.args.cells.now c.args.strangers.now k
          (length c.args.receivers.now.items) c.loop-receiver.roots c.loop-receiver.stranger_root) (n ∙ search rules) inv.0),
      hires_crews c.args.cells.now c.args.strangers.now (λ w. crew w.passes.items w.stranger_pass)
          (λ w. w.receiver) c.in_ok-worker.worker c.loop-receiver.workers.items c.insert.new.self.items c.in_ok-insert.ensures.items
          (length c.loop-receiver.receivers.items) left _ n (search rules) c.in_ok-worker.ensures.crew inv.1,
      hires_receivers c.args.cells.now c.args.strangers.now (λ w. crew w.passes.items w.stranger_pass)
          (λ w. w.receiver) c.in_ok-worker.worker c.loop-receiver.workers.items c.insert.new.self.items c.in_ok-insert.ensures.items _ _ _
          c.in-Some.receiver c.in-Some.ensures.items c.in_ok-worker.ensures.receiver inv.2,
    )

pub returns-clause-roots : goal.returns-clause-roots
returns-clause-roots g c =
    subst (λ (k : ℕ). AreRoots c.args.cells.now c.args.strangers.now k (length c.args.receivers.now.items) c.loop-receiver.roots
    c.loop-receiver.stranger_root) (sym c.loop-receiver.receivers.ok.0 ∙ c.in_default.ensures.cases.0) c.loop-receiver.invariant.0

pub returns-clause-crews : goal.returns-clause-crews
returns-clause-crews g c =
    subst (λ (k : ℕ). AreCrews c.args.cells.now c.args.strangers.now (k + 1)
    (map (λ w. crew w.passes.items w.stranger_pass) c.loop-receiver.workers.items))
    (sym c.loop-receiver.receivers.ok.0 ∙ c.in_default.ensures.cases.0) c.loop-receiver.invariant.1

pub returns-clause-receivers : goal.returns-clause-receivers
returns-clause-receivers g c =
    let none = nil_from_length c.loop-receiver.receivers.items (sym c.loop-receiver.receivers.ok.0 ∙ c.in_default.ensures.cases.0) in
    sym (c.loop-receiver.invariant.2 ∙ ap (λ l. l ++ map (λ w. w.receiver) c.loop-receiver.workers.items) none)

pub returns-clause-empty : goal.returns-clause-empty
returns-clause-empty g c = sym c.pop.new.self.ok.0 ∙ c.in_default.ensures.cases.1
