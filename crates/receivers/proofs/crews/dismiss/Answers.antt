use Rattle.std.proofs.Common.{ℕ, ◌+◌, ◌++◌, refl, sym, ap, ◌∙◌}
use Rattle.receivers.specs.Passes.{crew}
use Rattle.receivers.proofs.Dismissals.{none_gone, one_gone, all_gone, can_join_last, map_last, map_none, back_more}
use Rattle.receivers.proofs.Joinings.{one_less}
use Rattle.receivers.proofs.crews.dismiss.Goals as goal

pub loop-worker-init : goal.loop-worker-init
loop-worker-init g c = record {
  roots = c.requires.roots.0;
  stranger = c.requires.roots.1;
  can = c.requires.crews;
  gone = none_gone _ _ _;
  back = refl;
}

pub join_each-requires : goal.join_each-requires
join_each-requires g c = let inv = c.loop-worker.invariant in
    let can = can_join_last (λ w. crew w.passes.items w.stranger_pass) _ _ _ _ _ c.in-Some.ensures.items inv.can in
    record { roots = inv.roots; passes = can.1.crew_of.passes; not_first = can.1.split }

pub join-requires : goal.join-requires
join-requires g c = let inv = c.loop-worker.invariant in
    let can = can_join_last (λ w. crew w.passes.items w.stranger_pass) _ _ _ _ _ c.in-Some.ensures.items inv.can in
    record { cell = (inv.stranger, can.1.crew_of.stranger_pass); not_first = can.1.stranger }

pub loop-worker-preserved : goal.loop-worker-preserved
loop-worker-preserved g c = let e = c.join.ensures in let inv = c.loop-worker.invariant in
    let popped = c.in-Some.ensures.items in record {
      roots = c.join_each.ensures.roots;
      stranger = (e.same.0 ∙ inv.stranger.0, e.same.1 ∙ inv.stranger.1);
      can = (can_join_last (λ w. crew w.passes.items w.stranger_pass) _ _ _ _ _ popped inv.can).0;
      gone = one_gone _ _ _ (crew c.in-Some.worker.passes.items c.in-Some.worker.stranger_pass) _ _ _ _ _ _
          (map_last (λ w. crew w.passes.items w.stranger_pass) _ _ _ popped) inv.gone c.join_each.ensures.joined e;
      back = back_more (λ w. w.receiver) _ _ c.in-Some.worker _ _ _ popped c.in_ok-insert.ensures.items inv.back;
    }

pub loop-worker-smaller : goal.loop-worker-smaller
loop-worker-smaller g c =
    one_less (sym c.loop-worker.workers.ok.0 ∙ (sym c.in-Some.ensures.cases ∙ ap (λ (k : ℕ). k + 1) c.pop.new.self.ok.0))

pub returns-clause-roots : goal.returns-clause-roots
returns-clause-roots g c = (c.loop-worker.invariant.roots, c.loop-worker.invariant.stranger)

pub returns-clause-joined : goal.returns-clause-joined
returns-clause-joined g c =
    all_gone _ _ _ _ _ _ (map_none (λ w. crew w.passes.items w.stranger_pass) c.loop-worker.workers.items
    (sym c.loop-worker.workers.ok.0 ∙ c.in_default.ensures.cases.0)) c.loop-worker.invariant.gone

pub returns-clause-receivers : goal.returns-clause-receivers
returns-clause-receivers g c =
    let none = map_none (λ w. w.receiver) c.loop-worker.workers.items (sym c.loop-worker.workers.ok.0 ∙ c.in_default.ensures.cases.0) in
    sym (ap (λ l. l ++ c.loop-worker.receivers.items) none) ∙ c.loop-worker.invariant.back
