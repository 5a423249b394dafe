use Rattle.std.proofs.Common.{◌≡◌, ◌++◌, map, length}
use Rattle.lists.specs.Each.{Each}
use Rattle.book_cells.specs.Acts.{IsPassOf}
use Rattle.receivers.specs.Passes.{crew, ArePassesOf}
use Rattle.receivers.specs.Crews.{CanJoin}
use Rattle.receivers.proofs.Dismissals.{IsDismissed}
use Rattle.receivers.proofs.crews.dismiss.Given as goal

abbrev pub invariant-loop-worker : goal.invariant-loop-worker
invariant-loop-worker g l = record {
  roots : ArePassesOf l.cells l.roots;
  stranger : IsPassOf l.strangers l.stranger_root;
  can : Each (CanJoin l.cells l.strangers) (map (λ w. crew w.passes.items w.stranger_pass) l.workers.items);
  gone : IsDismissed (map (λ w. crew w.passes.items w.stranger_pass) l.fn.workers.items)
      (map (λ w. crew w.passes.items w.stranger_pass) l.workers.items) l.fn.roots l.roots l.fn.stranger_root l.stranger_root;
  back : map (λ w. w.receiver) l.workers.items ++ l.receivers.items ≡ map (λ w. w.receiver) l.fn.workers.items ++ l.fn.receivers.items;
}

abbrev pub decreases-loop-worker : goal.decreases-loop-worker
decreases-loop-worker g l = length l.workers.items
