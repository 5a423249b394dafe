use Rattle.std.proofs.Common.{length}
use Rattle.line_merge.proofs.running.+take_first.Given as goal

abbrev pub decreases-take_first : goal.decreases-take_first
decreases-take_first g l = length l.inputs.now
