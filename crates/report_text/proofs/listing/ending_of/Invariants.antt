use Rattle.report_text.proofs.ListedEnds.{IsOnTheWay}
use Rattle.report_text.proofs.listing.ending_of.Given as goal

abbrev pub decreases-records : goal.decreases-records
decreases-records l = l.left

abbrev pub invariant-records : goal.invariant-records
invariant-records l = IsOnTheWay l.payload l.from l.left
