use Rattle.std.proofs.Common.{length}
use Rattle.compact_profiles.proofs.kinds.+kind_among.Given as goal

abbrev pub decreases-kind_among : goal.decreases-kind_among
decreases-kind_among l = length l.qualifiers.now
