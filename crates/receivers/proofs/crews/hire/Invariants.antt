use Rattle.std.proofs.Common.{◌≡◌, ◌+◌, ◌++◌, map, length}
use Rattle.receivers.specs.Passes.{crew}
use Rattle.receivers.specs.Crews.{AreCrews, AreRoots}
use Rattle.receivers.proofs.crews.hire.Given as goal

abbrev pub invariant-loop-receiver : goal.invariant-loop-receiver
invariant-loop-receiver g l =
    AreRoots l.cells l.strangers (length l.receivers.items) (length l.fn.receivers.items) l.roots l.stranger_root
    × AreCrews l.cells l.strangers (length l.receivers.items + 1) (map (λ w. crew w.passes.items w.stranger_pass) l.workers.items)
    × (l.fn.receivers.items ≡ l.receivers.items ++ map (λ w. w.receiver) l.workers.items)

abbrev pub decreases-loop-receiver : goal.decreases-loop-receiver
decreases-loop-receiver g l = length l.receivers.items
