use Rattle.std.proofs.Common.{length}
use Rattle.line_merge.proofs.asked.+dashes.Given as goal

abbrev pub decreases-dashes : goal.decreases-dashes
decreases-dashes l = length l.names.now
