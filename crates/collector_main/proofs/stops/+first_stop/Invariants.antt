use Rattle.std.proofs.Common.{length}
use Rattle.collector_main.proofs.stops.+first_stop.Given as goal

abbrev pub decreases-first_stop : goal.decreases-first_stop
decreases-first_stop l = length l.ends.now
