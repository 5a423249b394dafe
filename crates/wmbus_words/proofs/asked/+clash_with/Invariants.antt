use Rattle.std.proofs.Common.{length}
use Rattle.wmbus_words.proofs.asked.+clash_with.Given as goal

abbrev pub decreases-clash_with : goal.decreases-clash_with
decreases-clash_with l = length l.later.now
