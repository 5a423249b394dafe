use Rattle.std.proofs.Common.{take}
use Rattle.lists.specs.Each.{EachWith}
use Rattle.collector_main.specs.Ready.{IsEndOf}
use Rattle.collector_main.proofs.stops.ends_of.Given as goal

abbrev pub invariant-loop-place : goal.invariant-loop-place
invariant-loop-place g l = EachWith IsEndOf (take l.place l.receivers) l.ends.items
